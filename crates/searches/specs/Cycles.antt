-- Cycles of a relation, as lists of events.
use Rattle.std.specs.Prelude.{◌≡◌, ℕ, suc, ◌-◌, ◌<◌, ◌≤◌, true, false, List, length, slice_index}
use Rattle.relations.specs.Algebra.{Rel}

-- a cycle of r: at least one event, each related to the next, and the last to the first
pub record IsCycle (r : Rel) (es : List ℕ) : Type 0 where
  pub some : 0 < length es
  pub steps : (i : ℕ) → suc i < length es → r (slice_index es i) (slice_index es (suc i)) ≡ true
  pub back : r (slice_index es (length es - 1)) (slice_index es 0) ≡ true

-- a is the lowest event that r relates to itself
pub record IsLowestLoop (r : Rel) (a : ℕ) : Type 0 where
  pub loop : r a a ≡ true
  pub first : (b : ℕ) → b < a → r b b ≡ false

-- a shortest cycle of r, told from its lowest event
pub record IsShortest (r : Rel) (es : List ℕ) : Type 0 where
  pub cycle : IsCycle r es
  -- it begins at its lowest event
  pub lowest : (i : ℕ) → i < length es → slice_index es 0 ≤ slice_index es i
  -- no event stands in it twice
  pub once : (i j : ℕ) → i < length es → j < length es → slice_index es i ≡ slice_index es j → i ≡ j
  -- no other cycle has fewer steps
  pub least : (fs : List ℕ) → IsCycle r fs → length es ≤ length fs
