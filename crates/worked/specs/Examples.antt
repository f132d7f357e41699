-- The worked examples: candidate executions of well-known litmus tests, event by event and tie by tie.
use Rattle.std.specs.Prelude.{ℕ, false, ◌&&◌, ◌||◌, List, [], ◌∷◌, ◌==◌}
use Rattle.executions.specs.declared.events.Event.{Event}
use Rattle.executions.specs.declared.sorts.Sort.{Sort}
use Rattle.executions.specs.declared.sorts.Sort.TheVariants.{ReadOnce, WriteOnce, Rmb, Wmb, Mb, RcuLock, RcuUnlock, SyncRcu}
use Rattle.executions.specs.declared.ties.Relation.{Relation}
use Rattle.executions.specs.declared.ties.Relation.TheVariants.{Rf, Co, Ctrl, Rmw}
use Rattle.executions.specs.Sorts.{sort_number}
use Rattle.executions.specs.Ties.{relation_number}
use Rattle.executions.specs.Execution.{Execution, Ties}

-- ---- how an example is written

-- W t p writes once, and R t p reads once, in thread t at place p. Thread 0 has the initial writes.
abbrev pub W : ℕ → ℕ → Event
W t p = record { thread = t; sort = sort_number WriteOnce; place = p }

abbrev pub R : ℕ → ℕ → Event
R t p = record { thread = t; sort = sort_number ReadOnce; place = p }

-- F t s is the fence s of thread t
abbrev pub F : ℕ → Sort → Event
F t s = record { thread = t; sort = sort_number s; place = 0 }

-- a tie of a relation from one event to another
pub record Tie : Type 0 where
  pub relation : Relation
  pub source : ℕ
  pub target : ℕ

abbrev pub tie : Relation → ℕ → ℕ → Tie
tie r a b = record { relation = r; source = a; target = b }

-- the pair is that of the tie
abbrev pub ties_to : Tie → Ties
ties_to t r a b = relation_number t.relation == relation_number r && (t.source == a && t.target == b)

-- the ties of a list
unfoldable pub listed : List Tie → Ties
listed [] r a b = false
listed (t ∷ ts) r a b = ties_to t r a b || listed ts r a b

-- an execution by its events, which are numbered from 0, and its ties
abbrev pub execution : List Event → List Tie → Execution
execution es ts = record { events = es; ties = listed ts }

-- ---- the examples. Place 1 is x and place 2 is y.

-- The blank case: no events.
unfoldable pub blank : Execution
blank = execution [] []

-- A thread reads from its own later write.
unfoldable pub own_later_write : Execution
own_later_write = execution
    -- 0: x = 0
    (W 0 1
    -- thread 1    1: r1 = x    2: x = 1
    ∷ R 1 1 ∷ W 1 1 ∷ [])
    -- r1 = 1
    (tie Rf 2 1 ∷ tie Co 0 2 ∷ [])

-- LB+ctrl+mb, load buffering: each thread reads what the other writes later, past a control dependency and past a full fence.
unfoldable pub lb_ctrl_mb : Execution
lb_ctrl_mb = execution
    -- 0: x = 0    1: y = 0
    (W 0 1 ∷ W 0 2
    -- thread 1    2: r1 = x    3: if (r1) y = 1
    ∷ R 1 1 ∷ W 1 2
    -- thread 2    4: r2 = y    5: smp_mb    6: x = 1
    ∷ R 2 2 ∷ F 2 Mb ∷ W 2 1 ∷ [])
    -- r1 = 1 and r2 = 1
    (tie Rf 6 2 ∷ tie Rf 3 4 ∷ tie Co 0 6 ∷ tie Co 1 3 ∷ tie Ctrl 2 3 ∷ [])

-- MP+wmb+rmb, message passing: the flag y is seen and the message x is not.
unfoldable pub mp_wmb_rmb : Execution
mp_wmb_rmb = execution
    -- 0: x = 0    1: y = 0
    (W 0 1 ∷ W 0 2
    -- thread 1    2: x = 1    3: smp_wmb    4: y = 1
    ∷ W 1 1 ∷ F 1 Wmb ∷ W 1 2
    -- thread 2    5: r1 = y    6: smp_rmb    7: r2 = x
    ∷ R 2 2 ∷ F 2 Rmb ∷ R 2 1 ∷ [])
    -- r1 = 1 and r2 = 0
    (tie Rf 4 5 ∷ tie Rf 0 7 ∷ tie Co 0 2 ∷ tie Co 1 4 ∷ [])

-- SB+mbs, store buffering: neither thread sees what the other wrote before its full fence.
unfoldable pub sb_mbs : Execution
sb_mbs = execution
    -- 0: x = 0    1: y = 0
    (W 0 1 ∷ W 0 2
    -- thread 1    2: x = 1    3: smp_mb    4: r1 = y
    ∷ W 1 1 ∷ F 1 Mb ∷ R 1 2
    -- thread 2    5: y = 1    6: smp_mb    7: r2 = x
    ∷ W 2 2 ∷ F 2 Mb ∷ R 2 1 ∷ [])
    -- r1 = 0 and r2 = 0
    (tie Rf 1 4 ∷ tie Rf 0 7 ∷ tie Co 0 2 ∷ tie Co 1 5 ∷ [])

-- RCU-MP, message passing to a reader: a read-side critical section reads x and then y; another thread writes y, waits for a grace period and writes x.
abbrev pub rcu_mp_events : List Event
rcu_mp_events =
    -- 0: x = 0    1: y = 0
    W 0 1 ∷ W 0 2
    -- thread 1    2: rcu_read_lock    3: r1 = x    4: r2 = y    5: rcu_read_unlock
    ∷ F 1 RcuLock ∷ R 1 1 ∷ R 1 2 ∷ F 1 RcuUnlock
    -- thread 2    6: y = 1    7: synchronize_rcu    8: x = 1
    ∷ W 2 2 ∷ F 2 SyncRcu ∷ W 2 1 ∷ []

-- its lock and its grace period
abbrev pub rcu_mp_lock : ℕ
rcu_mp_lock = 2

abbrev pub rcu_mp_period : ℕ
rcu_mp_period = 7

-- The section sees the write after the grace period and not the one before it: r1 = 1 and r2 = 0.
unfoldable pub rcu_mp : Execution
rcu_mp = execution rcu_mp_events (tie Rf 8 3 ∷ tie Rf 1 4 ∷ tie Co 0 8 ∷ tie Co 1 6 ∷ [])

-- Both reads are new: r1 = 1 and r2 = 1.
unfoldable pub rcu_mp_new : Execution
rcu_mp_new = execution rcu_mp_events (tie Rf 8 3 ∷ tie Rf 6 4 ∷ tie Co 0 8 ∷ tie Co 1 6 ∷ [])

-- Both reads are old: r1 = 0 and r2 = 0.
unfoldable pub rcu_mp_old : Execution
rcu_mp_old = execution rcu_mp_events (tie Rf 0 3 ∷ tie Rf 1 4 ∷ tie Co 0 8 ∷ tie Co 1 6 ∷ [])

-- A write of another thread comes between the two halves of a read-modify-write.
unfoldable pub split_rmw : Execution
split_rmw = execution
    -- 0: x = 0
    (W 0 1
    -- thread 1    1: x = 1
    ∷ W 1 1
    -- thread 2    2 and 3: r1 = xchg_relaxed(x, 2)
    ∷ R 2 1 ∷ W 2 1 ∷ [])
    -- r1 = 0, and x = 1 before x = 2
    (tie Rf 0 2 ∷ tie Co 0 1 ∷ tie Co 1 3 ∷ tie Rmw 2 3 ∷ [])
