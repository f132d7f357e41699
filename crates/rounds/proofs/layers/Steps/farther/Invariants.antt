use Rattle.std.proofs.Common.{◌≡◌, ℕ, ◌<◌, get_or}
use Rattle.relations.specs.View.{rel}
use Rattle.precedence.specs.Rows.{cells}
use Rattle.rounds.specs.Layers.{further}
use Rattle.rounds.proofs.layers.Steps.farther.Given as goal

abbrev pub invariant-loop-a : goal.invariant-loop-a
invariant-loop-a v = (k : ℕ) → k < v.a → get_or v.entry-items k 0 ≡ further (rel v.self.period) (rel v.self.section) (cells v.row) k
