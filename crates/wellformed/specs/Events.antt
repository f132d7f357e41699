-- What the check says of the events of an execution, by their numbers.
use Rattle.std.specs.Prelude.{◌≡◌, ℕ, zero, suc, pred, ◌<◌, Bool, true, cond, ◌&&◌, ◌||◌, ◌==◌}
use Rattle.rows.specs.Row.{Set}
use Rattle.relations.specs.Algebra.{Rel}
use Rattle.executions.specs.declared.events.Event.{Event}
use Rattle.executions.specs.declared.sorts.Sort.TheVariants.{RcuLock, RcuUnlock, SyncRcu}
use Rattle.executions.specs.declared.ties.Relation.TheVariants.{Co}
use Rattle.executions.specs.Events.{is, is_read, is_write}
use Rattle.executions.specs.Execution.{Execution, event_at}

-- event i is at place p
abbrev pub at_place : Execution → ℕ → ℕ → Bool
at_place x p i = (event_at x i).place == p

-- the reads and writes of place p, its writes, and its initial writes
abbrev pub accesses : Execution → ℕ → Set
accesses x p i = (is_read (event_at x i) || is_write (event_at x i)) && at_place x p i

abbrev pub writes : Execution → ℕ → Set
writes x p i = is_write (event_at x i) && at_place x p i

abbrev pub initials : Execution → ℕ → Set
initials x p i = writes x p i && (event_at x i).thread == 0

-- coherence as it is tied; the model takes its closure
abbrev pub co : Execution → Rel
co x = x.ties Co

-- ---- read-side critical sections

-- the event is an rcu-lock, or an rcu-unlock, of thread t
abbrev pub lock_of : ℕ → Event → Bool
lock_of t e = e.thread == t && is RcuLock e

abbrev pub unlock_of : ℕ → Event → Bool
unlock_of t e = e.thread == t && is RcuUnlock e

abbrev pub locks : Execution → ℕ → Set
locks x t i = lock_of t (event_at x i)

abbrev pub unlocks : Execution → ℕ → Set
unlocks x t i = unlock_of t (event_at x i)

-- how many locks of thread t are open before event i
unfoldable pub depth : Execution → ℕ → ℕ → ℕ
depth x t zero = 0
depth x t (suc i) = cond (locks x t i) (suc (depth x t i)) (cond (unlocks x t i) (pred (depth x t i)) (depth x t i))

-- event l is an outermost lock: none is open before it
abbrev pub outermost : Execution → ℕ → Set
outermost x t l = locks x t l && depth x t l == 0

-- A section: the outermost lock l of thread t and the unlock u that closes it, the first one after which no lock of the thread is
-- open. An inner lock neither begins nor ends a section.
pub record Section (x : Execution) (t l u : ℕ) : Type 0 where
  pub begins : outermost x t l ≡ true
  pub ends : (unlocks x t u && depth x t u == 1) ≡ true
  pub later : l < u
  pub between : (i : ℕ) → l < i → i < u → 0 < depth x t i

-- A period: a sync-rcu event.
abbrev pub period : Execution → Set
period x s = is SyncRcu (event_at x s)
