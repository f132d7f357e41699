-- The faults of the check, in their order.
use Rattle.std.specs.Prelude.{◌≡◌, ℕ, zero, suc, ◌+◌, ◌<◌, Bool, false, cond, not, ◌&&◌, ◌||◌, List, [], ◌∷◌, Some, None, Option, Result, ◌==◌, nat_lt}
use Rattle.std.specs.Result.{result_err}
use Rattle.rows.specs.Row.{any, count as many}
use Rattle.relations.specs.Algebra.{plus}
use Rattle.executions.specs.declared.faults.Cause.{Cause}
use Rattle.executions.specs.declared.faults.Cause.TheVariants.{TooManyEvents, OutOfRange, NoSuchEvent, DoesNotFit, OverLimit, ReadWithoutRf, InitialWrites, CoherenceNotTotal, LocksNotPaired}
use Rattle.executions.specs.declared.faults.Fault.{Fault}
use Rattle.executions.specs.declared.faults.Layer.TheVariants.{Check}
use Rattle.executions.specs.declared.ties.Relation.{Relation}
use Rattle.executions.specs.declared.ties.Relation.TheVariants.{Rf, Co, Addr, Data, Ctrl, Rmw}
use Rattle.executions.specs.Events.{in_range, is_read}
use Rattle.executions.specs.Execution.{Execution, count, event_at}
use Rattle.executions.specs.Ties.{relations, fits}
use Rattle.wellformed.specs.Events.{accesses, writes, initials, co, unlocks, depth, outermost}

-- ---- the first of several faults

-- the first fault, or else the second
abbrev pub or_else : Option Fault → Option Fault → Option Fault
or_else None g = g
or_else (Some f) g = Some f

-- the first of the faults at 0, 1 and so on, below n
unfoldable pub first : ℕ → (ℕ → Option Fault) → Option Fault
first zero f = None
first (suc n) f = or_else (first n f) (f n)

-- the first of the faults of each of a list
abbrev pub first_in : {A : Type 0} → (A → Option Fault) → List A → Option Fault
first_in f [] = None
first_in f (x ∷ xs) = or_else (f x) (first_in f xs)

-- the outcome r of tests of 0, 1 and so on below n: where a test that answers t may only decline with the fault of its number, the first of these faults
abbrev pub FirstOf : ℕ → (ℕ → Result (Unit {0}) Fault → Type 0) → Result (Unit {0}) Fault → Type 0
FirstOf n answers r =
    (faults : ℕ → Option Fault) → ((i : ℕ) (t : Result (Unit {0}) Fault) → i < n → answers i t → result_err t ≡ faults i) → result_err r ≡ first n faults

-- a fault of the check at a place, if the test is met
abbrev pub fault_if : Bool → Cause → ℕ → Option Fault
fault_if met c place = cond met (Some (record { cause = c; layer = Check; place = place })) None

-- ---- what is tested

abbrev pub range_fault : Execution → ℕ → Option Fault
range_fault x i = fault_if (not (in_range (event_at x i))) OutOfRange i

-- an rmw tie from an event before a stands at e
abbrev pub stands_before : Execution → ℕ → ℕ → Bool
stands_before x a e = any a (λ c. x.ties Rmw c e) || (nat_lt e a && any 64 (x.ties Rmw e))

-- the tie from a to b is one too many, counted with the ties taken before it: those from events before a, and those from a to events before b
abbrev pub one_too_many : Execution → Relation → ℕ → ℕ → Bool
one_too_many x Rf a b = any a (λ c. x.ties Rf c b)
one_too_many x Co a b = false
one_too_many x Addr a b = false
one_too_many x Data a b = false
one_too_many x Ctrl a b = false
one_too_many x Rmw a b = stands_before x a a || (stands_before x a b || any b (x.ties Rmw a))

-- what is wrong with the tie from a to b: the first of three tests
abbrev pub pair_fault : Execution → Relation → ℕ → ℕ → Bool → Option Fault
pair_fault x r a b over =
    or_else (fault_if (not (nat_lt b (count x))) NoSuchEvent b)
    (or_else (fault_if (not (fits r a (event_at x a) b (event_at x b))) DoesNotFit a)
    (fault_if over OverLimit b))

-- no fault where there is no tie
abbrev pub tie_fault : Execution → Relation → ℕ → ℕ → Option Fault
tie_fault x r a b = cond (x.ties r a b) (pair_fault x r a b (one_too_many x r a b)) None

-- the ties by relation, first event, second event
abbrev pub row_fault : Execution → Relation → ℕ → Option Fault
row_fault x r a = first 64 (tie_fault x r a)

abbrev pub relation_fault : Execution → Relation → Option Fault
relation_fault x r = first (count x) (row_fault x r)

abbrev pub read_fault : Execution → ℕ → Option Fault
read_fault x b = fault_if (is_read (event_at x b) && not (any (count x) (λ a. x.ties Rf a b))) ReadWithoutRf b

-- the place is in use and has not exactly one initial write
abbrev pub initial_fault : Execution → ℕ → Option Fault
initial_fault x p = fault_if (any (count x) (accesses x p) && not (many (count x) (initials x p) == 1)) InitialWrites p

-- the closure of coherence puts v and w in no order, or in both, or v before itself
abbrev pub unordered : Execution → ℕ → ℕ → Bool
unordered x v w = cond (v == w) (plus (co x) v v) (cond (plus (co x) v w) (plus (co x) w v) (not (plus (co x) w v)))

-- v and w are writes of the place that are not in order
abbrev pub disordered : Execution → ℕ → ℕ → ℕ → Bool
disordered x p v w = writes x p v && (writes x p w && unordered x v w)

abbrev pub coherence_fault : Execution → ℕ → Option Fault
coherence_fault x p = fault_if (any (count x) (λ v. any (count x) (disordered x p v))) CoherenceNotTotal p

-- an unlock of thread t before which no lock is open
abbrev pub unlock_fault : Execution → ℕ → ℕ → Option Fault
unlock_fault x t u = fault_if (unlocks x t u && depth x t u == 0) LocksNotPaired u

-- the last outermost lock of thread t before event n: the one that is still open if any is
unfoldable pub last_lock : Execution → ℕ → ℕ → ℕ
last_lock x t zero = 0
last_lock x t (suc i) = cond (outermost x t i) i (last_lock x t i)

abbrev pub thread_fault : Execution → ℕ → Option Fault
thread_fault x t = or_else (first (count x) (unlock_fault x t)) (fault_if (nat_lt 0 (depth x t (count x))) LocksNotPaired (last_lock x t (count x)))

-- the six tests, each in its own order
abbrev pub count_fault : Execution → Option Fault
count_fault x = fault_if (nat_lt 64 (count x)) TooManyEvents 64

abbrev pub events_fault : Execution → Option Fault
events_fault x = first (count x) (range_fault x)

abbrev pub ties_fault : Execution → Option Fault
ties_fault x = first_in (relation_fault x) relations

abbrev pub reads_fault : Execution → Option Fault
reads_fault x = first (count x) (read_fault x)

abbrev pub initials_fault : Execution → Option Fault
initials_fault x = first 16 (λ k. initial_fault x (k + 1))

abbrev pub orders_fault : Execution → Option Fault
orders_fault x = first 16 (λ k. coherence_fault x (k + 1))

abbrev pub threads_fault : Execution → Option Fault
threads_fault x = first 8 (λ k. thread_fault x (k + 1))

-- The first fault of an execution: the count, the events by number, the ties, the reads by number, initial writes and coherence by place,
-- locks by thread.
abbrev pub first_fault : Execution → Option Fault
first_fault x =
    or_else (count_fault x)
    (or_else (events_fault x)
    (or_else (ties_fault x)
    (or_else (reads_fault x)
    (or_else (initials_fault x)
    (or_else (orders_fault x)
    (threads_fault x))))))
