-- A sheet of balances as the code keeps it: 64 rows of 64 bytes.
use Rattle.std.specs.Prelude.{◌≡◌, ℕ, ◌<◌, Bool, true, cond, List, [], nat_lt, slice_index, slice_index_or}
use Rattle.relations.specs.Algebra.{Set}
use Rattle.grace.specs.Sheet.{Sheet}

-- the entries of a row of 64 bytes; none past them
unfoldable pub cells : List ℕ → ℕ → ℕ
cells row b = cond (nat_lt b 64) (slice_index row b) 0

-- the sheet of 64 rows
unfoldable pub sheet : List (List ℕ) → Sheet
sheet m a = cells (slice_index_or m a [])

-- a set of events: of each it has what a test answered
pub record ArePassing (answers : ℕ → Bool → Type 0) (s : Set) : Type 0 where
  pub each : (e : ℕ) → e < 64 → answers e (s e)
  pub room : (e : ℕ) → s e ≡ true → e < 64
