use Rattle.std.proofs.Common.{◌≡◌, ℕ, ◌<◌, None, Option, Result}
use Rattle.std.specs.Result.{result_err}
use Rattle.executions.specs.declared.faults.Fault.{Fault}
use Rattle.wellformed.specs.Faults.{first}
use Rattle.wellformed.proofs.declining.test_each.Given as goal

-- no fault so far
abbrev pub invariant-loop-i : goal.invariant-loop-i
invariant-loop-i g l =
    (faults : ℕ → Option Fault) → ((i : ℕ) (t : Result (Unit {0}) Fault) → i < l.n → goal.F-post g l.test i t → result_err t ≡ faults i) → first l.i faults ≡ None
