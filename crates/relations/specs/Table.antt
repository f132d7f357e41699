-- A relation as a table: 64 rows of targets, one for each event.
use Rattle.std.specs.Prelude.{◌≡◌, ℕ, ◌^◌, ◌<◌, true, ◌&&◌, ◌||◌, List, nat_lt, slice_index}
use Rattle.rows.specs.Row.{bit}
use Rattle.relations.specs.Algebra.{Rel, within}

-- the relation of 64 rows: b is a target of a when it is in row a
unfoldable pub table : List ℕ → Rel
table rows a b = nat_lt a 64 && (nat_lt b 64 && bit (slice_index rows a) b)

-- a relation on the first n events: no pair has an end at or past n
abbrev pub On : ℕ → Rel → Type 0
On n r = (a b : ℕ) → r a b ≡ true → (a < n) × (b < n)

-- r, and two steps of r that meet at k
unfoldable pub via : ℕ → Rel → Rel
via k r a b = r a b || (r a k && r k b)

-- each of the first n rows of r is a word that `answers` allows there, as far as its numbers are below n
abbrev pub HasRows : ℕ → (ℕ → ℕ → Type 0) → Rel → Type 0
HasRows n answers r = (a : ℕ) → a < n → (w : ℕ) × (w < 2 ^ 64) × answers a w × (r a ≡ within n (bit w))
