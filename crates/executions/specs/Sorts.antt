-- The twelve sorts of events and their numbers.
use Rattle.std.specs.Prelude.{ℕ, cond, List, [], ◌∷◌, Some, None, codes, Option, ◌==◌}
use Rattle.executions.specs.declared.sorts.Sort.{Sort}
use Rattle.executions.specs.declared.sorts.Sort.TheVariants.{ReadOnce, ReadAcquire, WriteOnce, WriteRelease, Rmb, Wmb, Mb, RbDep, RcuLock, RcuUnlock, SyncRcu, Blank}

-- the number of each sort
abbrev pub sort_number : Sort → ℕ
sort_number ReadOnce = 1
sort_number ReadAcquire = 2
sort_number WriteOnce = 3
sort_number WriteRelease = 4
sort_number Rmb = 5
sort_number Wmb = 6
sort_number Mb = 7
sort_number RbDep = 8
sort_number RcuLock = 9
sort_number RcuUnlock = 10
sort_number SyncRcu = 11
sort_number Blank = 12

-- all of them
abbrev pub sorts : List Sort
sorts = ReadOnce ∷ ReadAcquire ∷ WriteOnce ∷ WriteRelease ∷ Rmb ∷ Wmb ∷ Mb ∷ RbDep ∷ RcuLock ∷ RcuUnlock ∷ SyncRcu ∷ Blank ∷ []

-- the one of a list of names that has the number n
abbrev pub numbered : {E : Type 0} → (E → ℕ) → List E → ℕ → Option E
numbered number [] n = None
numbered number (e ∷ es) n = cond (n == number e) (Some e) (numbered number es n)

-- the sort of a number
abbrev pub sort_of : ℕ → Option Sort
sort_of = numbered sort_number sorts

-- each sort in words
abbrev pub sort_name : Sort → List ℕ
sort_name ReadOnce = codes "read once"
sort_name ReadAcquire = codes "read acquire"
sort_name WriteOnce = codes "write once"
sort_name WriteRelease = codes "write release"
sort_name Rmb = codes "rmb"
sort_name Wmb = codes "wmb"
sort_name Mb = codes "mb"
sort_name RbDep = codes "rb-dep"
sort_name RcuLock = codes "rcu-lock"
sort_name RcuUnlock = codes "rcu-unlock"
sort_name SyncRcu = codes "sync-rcu"
sort_name Blank = codes "blank"
