-- The basis of a candidate execution.
use Rattle.std.specs.Prelude.{◌&&◌, ◌||◌, ◌==◌, nat_lt}
use Rattle.rows.specs.Row.{Set}
use Rattle.relations.specs.Algebra.{Rel, identity, union, plus}
use Rattle.executions.specs.declared.sorts.Sort.{Sort}
use Rattle.executions.specs.declared.sorts.Sort.TheVariants.{ReadAcquire, WriteRelease, Rmb, Wmb, Mb, RbDep, SyncRcu}
use Rattle.executions.specs.declared.ties.Relation.{Relation}
use Rattle.executions.specs.declared.ties.Relation.TheVariants.{Rf, Co, Addr, Data, Ctrl, Rmw}
use Rattle.executions.specs.Events.{is, is_read, is_write, in_program}
use Rattle.executions.specs.Execution.{Execution, count, event_at}
use Rattle.executions.specs.Ties.{same_place}
use Rattle.executions.specs.Ties as ties
use Rattle.basis.specs.Basis.{Basis}
use Rattle.basis.specs.Sections.{crit}

-- po: from an event to a later one of the same thread of the program
unfoldable pub po : Execution → Rel
po x a b = ties.po a (event_at x a) b (event_at x b)

-- both events are of one thread of the program
unfoldable pub same_thread : Execution → Rel
same_thread x a b = in_program (event_at x a) && (event_at x a).thread == (event_at x b).thread

-- int: each event with itself and with all of its thread of the program. Initial writes are of no thread.
unfoldable pub int : Execution → Rel
int x = union (identity (count x)) (same_thread x)

-- the event reads or writes
unfoldable pub accesses : Execution → Set
accesses x a = is_read (event_at x a) || is_write (event_at x a)

-- loc: reads and writes of one place
unfoldable pub loc : Execution → Rel
loc x a b = accesses x a && (accesses x b && same_place (event_at x a) (event_at x b))

-- the ties of a relation, from event to event
unfoldable pub tied : Relation → Execution → Rel
tied r x a b = nat_lt a (count x) && (nat_lt b (count x) && x.ties r a b)

-- the events of a sort
unfoldable pub of_sort : Sort → Execution → Set
of_sort s x a = is s (event_at x a)

-- the basis of an execution; co is the closure of what is tied
unfoldable pub basis : Execution → Basis
basis x = record {
  count = count x;
  po = po x;
  int = int x;
  loc = loc x;
  rf = tied Rf x;
  co = plus (tied Co x);
  addr = tied Addr x;
  «data» = tied Data x;
  ctrl = tied Ctrl x;
  rmw = tied Rmw x;
  crit = crit x;
  reads = λ a. is_read (event_at x a);
  writes = λ a. is_write (event_at x a);
  acquires = of_sort ReadAcquire x;
  releases = of_sort WriteRelease x;
  rmbs = of_sort Rmb x;
  wmbs = of_sort Wmb x;
  mbs = of_sort Mb x;
  rb_deps = of_sort RbDep x;
  periods = of_sort SyncRcu x;
}
