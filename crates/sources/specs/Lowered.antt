-- Which sorts are weaker than which, and an execution with weaker events.
use Rattle.std.specs.Prelude.{ℕ, Bool, false, cond, ◌||◌, List, [], ◌∷◌, take, Some, None, ◌==◌}
use Rattle.executions.specs.declared.events.Event.{Event}
use Rattle.executions.specs.declared.sorts.Sort.{Sort}
use Rattle.executions.specs.declared.sorts.Sort.TheVariants.{ReadOnce, ReadAcquire, WriteOnce, WriteRelease, Rmb, Wmb, Mb, RbDep, RcuLock, RcuUnlock, SyncRcu, Blank}
use Rattle.executions.specs.Execution.{Execution}
use Rattle.executions.specs.Sorts.{sort_number, sort_of}

-- the sorts that are weaker than a sort
abbrev pub under : Sort → List Sort
under ReadOnce = []
under ReadAcquire = ReadOnce ∷ []
under WriteOnce = []
under WriteRelease = WriteOnce ∷ []
under Rmb = Blank ∷ []
under Wmb = Blank ∷ []
under Mb = Rmb ∷ Wmb ∷ Blank ∷ []
under RbDep = Blank ∷ []
under RcuLock = []
under RcuUnlock = []
under SyncRcu = Rmb ∷ Wmb ∷ Mb ∷ Blank ∷ []
under Blank = []

-- one of the sorts has that number
abbrev pub one_of : ℕ → List Sort → Bool
one_of n [] = false
one_of n (s ∷ ss) = n == sort_number s || one_of n ss

-- the sort numbered `new` is weaker than the sort numbered `old`
abbrev pub weaker : ℕ → ℕ → Bool
weaker new old = elim (sort_of old) [ None ↦ false | Some s ↦ one_of new (under s) ]

-- an event with a weaker sort, or as it is
abbrev pub lower : ℕ → Event → Event
lower new e = cond (weaker new e.sort) (record { thread = e.thread; sort = new; place = e.place }) e

-- the new sorts in turn, for as many events as there are sorts
abbrev pub lower_all : List ℕ → List Event → List Event
lower_all news [] = []
lower_all [] (e ∷ es) = e ∷ es
lower_all (new ∷ news) (e ∷ es) = lower new e ∷ lower_all news es

-- the execution with new sorts for its first 64 events
abbrev pub lowered : List ℕ → Execution → Execution
lowered news x = record { events = lower_all (take 64 news) x.events; ties = x.ties }
