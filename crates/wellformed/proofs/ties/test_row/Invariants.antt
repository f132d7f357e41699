use Rattle.std.proofs.Common.{◌≡◌, ℕ, true, false, None}
use Rattle.rows.specs.Row.{bit}
use Rattle.sources.specs.Snapshot.{execution}
use Rattle.wellformed.specs.Faults.{tie_fault}
use Rattle.wellformed.proofs.ties.test_row.Given as goal

-- what is left is in the row, and what is not left has no fault
abbrev pub invariant-loop-b : goal.invariant-loop-b
invariant-loop-b l =
    ((e : ℕ) → bit l.b-iterator.rest e ≡ true → (execution l.case).ties l.relation l.a e ≡ true)
    × ((e : ℕ) → bit l.b-iterator.rest e ≡ false → tie_fault (execution l.case) l.relation l.a e ≡ None)
