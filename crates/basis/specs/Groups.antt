-- Events by a number that each has: its thread, its sort or its place.
-- For the contracts of private functions; no public contract cites it.
use Rattle.std.specs.Prelude.{◌≡◌, ℕ, ◌<◌, ◌&&◌, List, ◌==◌, nat_lt, slice_index}
use Rattle.rows.specs.Row.{bit}

-- group k has the events below n with the number k
abbrev pub Grouped : (ℕ → ℕ) → ℕ → List ℕ → Type 0
Grouped number n groups = (k b : ℕ) → k < 256 → bit (slice_index groups k) b ≡ (nat_lt b n && number b == k)
