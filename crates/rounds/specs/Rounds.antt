-- Rounds of Rcu, as lists of events and marks.
use Rattle.std.specs.Prelude.{◌≡◌, ℕ, suc, ◌-◌, ◌<◌, ◌≤◌, true, List, length, slice_index, slice_index_or}
use Rattle.relations.specs.Algebra.{Rel}
use Rattle.grace.specs.Scene.{Scene}
use Rattle.rounds.specs.declared.kinds.Mark.{Mark}
use Rattle.rounds.specs.declared.kinds.Mark.TheVariants.{Period}
use Rattle.rounds.specs.Marks.{periods, sections, by, period_step, section_step}

-- a round of period steps p and section steps s: each event leads to the next by a step of its mark, the last to the first, and at least as
-- many of the steps are period steps as section steps
pub record IsRound (p s : Rel) (es : List ℕ) (ms : List Mark) : Type 0 where
  pub some : 0 < length es
  pub marked : length ms ≡ length es
  pub steps : (i : ℕ) → suc i < length es → by p s (slice_index_or ms i Period) (slice_index es i) (slice_index es (suc i)) ≡ true
  pub back : by p s (slice_index_or ms (length es - 1) Period) (slice_index es (length es - 1)) (slice_index es 0) ≡ true
  pub enough : sections ms ≤ periods ms

-- a round of Rcu
abbrev pub IsRcuRound : Scene → List ℕ → List Mark → Type 0
IsRcuRound x = IsRound (period_step x) (section_step x)

-- a shortest round of Rcu, told from its lowest event
pub record IsShortestRound (x : Scene) (es : List ℕ) (ms : List Mark) : Type 0 where
  pub round : IsRcuRound x es ms
  -- it has at most as many steps as there are events
  pub short : length es ≤ x.count
  -- it begins at its lowest event
  pub lowest : (i : ℕ) → i < length es → slice_index es 0 ≤ slice_index es i
  -- no event stands in it twice
  pub once : (i j : ℕ) → i < length es → j < length es → slice_index es i ≡ slice_index es j → i ≡ j
  -- no other round has fewer steps
  pub least : (fs : List ℕ) (ns : List Mark) → IsRcuRound x fs ns → length es ≤ length fs
