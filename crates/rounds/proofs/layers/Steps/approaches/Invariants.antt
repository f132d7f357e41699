use Rattle.std.proofs.Common.{replicate}
use Rattle.relations.specs.View.{rel}
use Rattle.precedence.proofs.Joining.{Rowed}
use Rattle.rounds.specs.Layers.{tally}
use Rattle.rounds.proofs.layers.Steps.approaches.Given as goal

abbrev pub invariant-loop-j : goal.invariant-loop-j
invariant-loop-j v = Rowed v.ways (replicate 64 (replicate 64 0)) v.j (λ j. tally (rel v.self.period) (rel v.self.section) j v.end)
