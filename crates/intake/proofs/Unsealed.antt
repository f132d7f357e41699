-- A text whose case is sealed.
use Rattle.std.proofs.Common.{◌≡◌, ℕ, List, Some, None, Ok, Err, Option, Result, sym, ap, ◌∙◌, ap₂, arith}
use Rattle.executions.specs.declared.faults.Fault.{Fault}
use Rattle.executions.specs.Execution.{Execution}
use Rattle.sources.specs.Source.{bounded}
use Rattle.wellformed.specs.Faults.{first_fault}
use Rattle.tables.specs.Plain.{Plain, Sealed, marked, seal_plain}
use Rattle.casetext.specs.Reading.{read_plain}
use Rattle.casetext.specs.Promises.{opened}
use Rattle.intake.specs.declared.kinds.Refusal.{Refusal}
use Rattle.intake.specs.Sealing.{of_case, checked_as, read_as, sealed_text}

-- a text whose case has no fault
pub sealed_so : (bs : List ℕ) (x : Execution) → read_plain 64 384 bs ≡ Ok (opened x) → first_fault (bounded x) ≡ None → sealed_text bs ≡ Ok (bounded x)
sealed_so bs x read none = ap read_as read ∙ ap (checked_as (bounded x)) none
