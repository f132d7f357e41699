-- When a candidate execution is well formed, in the words of the subject.
use Rattle.std.specs.Prelude.{◌≡◌, ℕ, ◌<◌, ◌≤◌, true, ◌⊎◌, Some, None, Ok, Err, Result, ◌≢◌}
use Rattle.relations.specs.Chains.{Chain}
use Rattle.executions.specs.declared.faults.Fault.{Fault}
use Rattle.executions.specs.declared.ties.Relation.{Relation}
use Rattle.executions.specs.declared.ties.Relation.TheVariants.{Rf, Rmw}
use Rattle.executions.specs.Events.{in_range, is_read}
use Rattle.executions.specs.Execution.{Execution, count, event_at}
use Rattle.executions.specs.Ties.{fits}
use Rattle.sources.specs.declared.kinds.Snapshot.{Snapshot}
use Rattle.sources.specs.Snapshot.{execution}
use Rattle.wellformed.specs.Faults.{first_fault}
use Rattle.wellformed.specs.Events.{accesses, writes, initials, co, unlocks, depth}

-- the tie is there
abbrev pub Tied : Execution → Relation → ℕ → ℕ → Type 0
Tied x r a b = x.ties r a b ≡ true

-- the ties go from events to numbers below 64, as those of every source do
abbrev pub Inside : Execution → Type 0
Inside x = (r : Relation) (a b : ℕ) → Tied x r a b → (a < count x) × (b < 64)

-- of the two events of a tie, one is e
abbrev pub Stands : ℕ → ℕ → ℕ → Type 0
Stands e a b = (e ≡ a) ⊎ (e ≡ b)

-- the place has exactly one initial write
pub record OneInitial (x : Execution) (p : ℕ) : Type 0 where
  pub write : ℕ
  pub there : write < count x
  pub is_one : initials x p write ≡ true
  pub only : (w : ℕ) → w < count x → initials x p w ≡ true → w ≡ write

-- chains of coherence put the writes of the place in a strict total order: none comes before itself, and of two different ones
-- exactly one comes before the other
pub record Ordered (x : Execution) (p : ℕ) : Type 0 where
  pub irreflexive : (w : ℕ) → w < count x → writes x p w ≡ true → Chain (co x) w w → ⊥
  pub total : (v w : ℕ) → v < count x → w < count x → writes x p v ≡ true → writes x p w ≡ true → (v ≢ w) → Chain (co x) v w ⊎ Chain (co x) w v
  pub one_way : (v w : ℕ) → v < count x → w < count x → writes x p v ≡ true → writes x p w ≡ true → Chain (co x) v w → Chain (co x) w v → ⊥

-- the locks of the thread are paired: before every unlock one is open, and after the last event none
pub record Paired (x : Execution) (t : ℕ) : Type 0 where
  pub opened : (u : ℕ) → u < count x → unlocks x t u ≡ true → 0 < depth x t u
  pub closed : depth x t (count x) ≡ 0

pub record WellFormed (x : Execution) : Type 0 where
  -- at most 64 events, each in range
  pub few : count x ≤ 64
  pub ranged : (i : ℕ) → i < count x → in_range (event_at x i) ≡ true
  -- each tie ends at an event and fits
  pub ends : (r : Relation) (a b : ℕ) → Tied x r a b → b < count x
  pub fitting : (r : Relation) (a b : ℕ) → Tied x r a b → fits r a (event_at x a) b (event_at x b) ≡ true
  -- a read has at most one rf tie, and an event stands in at most one rmw tie
  pub one_rf : (a c b : ℕ) → Tied x Rf a b → Tied x Rf c b → a ≡ c
  pub one_rmw : (a b c d e : ℕ) → Tied x Rmw a b → Tied x Rmw c d → Stands e a b → Stands e c d → (a ≡ c) × (b ≡ d)
  -- each read has an rf tie
  pub read_from : (b : ℕ) → b < count x → is_read (event_at x b) ≡ true → (a : ℕ) × Tied x Rf a b
  -- each place in use has exactly one initial write, and coherence orders its writes
  pub initial : (p i : ℕ) → i < count x → accesses x p i ≡ true → OneInitial x p
  pub ordered : (p : ℕ) → Ordered x p
  -- the locks of each thread are paired
  pub paired : (t : ℕ) → 1 ≤ t → t ≤ 8 → Paired x t

-- What the check answers of an execution: a copy of it exactly if it is well formed, else the fault that comes first.
abbrev pub Checked : Execution → Result Snapshot Fault → Type 0
Checked x (Ok s) = (execution s ≡ x) × (first_fault x ≡ None) × WellFormed x
Checked x (Err f) = (first_fault x ≡ Some f) × (WellFormed x → ⊥)
