use Rattle.std.proofs.Common.{◌≡◌, ℕ, ◌<◌, get_or}
use Rattle.relations.specs.View.{rel}
use Rattle.searches.specs.Keys.{key}
use Rattle.searches.proofs.orders.keys.Given as goal

abbrev pub invariant-loop-a : goal.invariant-loop-a
invariant-loop-a l = (b : ℕ) → b < l.a → get_or l.key-items b 0 ≡ key (rel l.before) b
