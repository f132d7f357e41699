use Rattle.std.proofs.Common.{◌≡◌, ℕ, ◌<◌, length, get_or}
use Rattle.searches.specs.Keys.{rank}
use Rattle.searches.proofs.orders.order.Given as goal

abbrev pub invariant-loop-a : goal.invariant-loop-a
invariant-loop-a l = (length l.places ≡ 64) × ((b : ℕ) → b < l.a → get_or l.places b 0 ≡ rank (length l.keys) (λ a. get_or l.keys a 0) (get_or l.keys b 0))
