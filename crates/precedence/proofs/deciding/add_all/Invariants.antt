use Rattle.settings.specs.View.{scene}
use Rattle.precedence.specs.Rows.{sheet}
use Rattle.precedence.proofs.Climbing.{Climb}
use Rattle.precedence.proofs.deciding.add_all.Given as goal

abbrev pub invariant-loop-k : goal.invariant-loop-k
invariant-loop-k g l = Climb (g.K.Kind.stairs (scene l.x)) l.k (sheet l.m)
