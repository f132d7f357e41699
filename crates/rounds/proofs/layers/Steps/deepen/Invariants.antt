use Rattle.relations.specs.View.{rel}
use Rattle.precedence.specs.Rows.{sheet}
use Rattle.precedence.proofs.Joining.{Rowed}
use Rattle.rounds.specs.Layers.{further}
use Rattle.rounds.proofs.layers.Steps.deepen.Given as goal

abbrev pub invariant-loop-row : goal.invariant-loop-row
invariant-loop-row v = Rowed v.m v.initial.m v.row-index (λ b. further (rel v.self.period) (rel v.self.section) (sheet v.initial.m b))
