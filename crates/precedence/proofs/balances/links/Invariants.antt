use Rattle.std.proofs.Common.{◌≡◌, ℕ, ◌<◌, [], cond, get_or}
use Rattle.relations.specs.View.{rel}
use Rattle.precedence.specs.Rows.{cells}
use Rattle.precedence.proofs.balances.links.Given as goal

abbrev pub invariant-loop-a : goal.invariant-loop-a
invariant-loop-a l = (k : ℕ) → k < l.a → cells (get_or l.row-items k []) ≡ (λ b. cond (rel l.link k b) 128 0)
