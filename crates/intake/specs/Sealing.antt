-- What comes of a text that is read and sealed.
use Rattle.std.specs.Prelude.{◌≡◌, ℕ, List, ◌++◌, codes, decimal, Some, None, Ok, Err, Option, Result}
use Rattle.executions.specs.declared.events.Event.{Event}
use Rattle.executions.specs.declared.faults.Fault.{Fault}
use Rattle.executions.specs.Faults.{cause_number}
use Rattle.executions.specs.Execution.{Execution}
use Rattle.sources.specs.Source.{bounded}
use Rattle.wellformed.specs.Faults.{first_fault}
use Rattle.tables.specs.declared.kinds.SealedCase.{SealedCase}
use Rattle.tables.specs.Plain.{Plain}
use Rattle.tables.specs.Tables.{sealed_plain}
use Rattle.casetext.specs.declared.kinds.TextFault.{TextFault}
use Rattle.casetext.specs.declared.kinds.TextFault.TheVariants.{Text, Entry}
use Rattle.casetext.specs.Reading.{read_plain}
use Rattle.casetext.specs.Promises.{opened}
use Rattle.intake.specs.declared.kinds.Refusal.{Refusal}

-- a refusal of the text, by its innermost fault: the text's own fault has its line as its place
abbrev pub of_text : TextFault → Refusal
of_text (Text f) = record { fault = f; line = f.place }
of_text (Entry f n) = record { fault = f; line = n }

-- a refusal of the whole case, which has no line
abbrev pub of_case : Fault → Refusal
of_case f = record { fault = f; line = 0 }

-- a refusal in words
abbrev pub told : Refusal → List ℕ
told r = codes "refused " ++ decimal (cause_number r.fault.cause) ++ codes " place " ++ decimal r.fault.place ++ codes " line " ++ decimal r.line

-- a case with no fault is sealed
abbrev pub checked_as : Execution → Option Fault → Result Execution Refusal
checked_as x None = Ok x
checked_as x (Some f) = Err (of_case f)

-- what was read is checked
abbrev pub read_as : Result Plain TextFault → Result Execution Refusal
read_as (Err f) = Err (of_text f)
read_as (Ok p) = checked_as (bounded p.execution) (first_fault (bounded p.execution))

-- the case that a text is sealed as, or the first fault
abbrev pub sealed_text : List ℕ → Result Execution Refusal
sealed_text bs = read_as (read_plain 64 384 bs)

-- a text was read into tables and sealed
abbrev pub SealedFrom : List ℕ → List Event → List ℕ → Result SealedCase Refusal → Type 0
SealedFrom bs rs ws (Ok c) =
    (read_plain 64 384 bs ≡ Ok (opened (sealed_plain c rs ws).execution)) × (first_fault (bounded (sealed_plain c rs ws).execution) ≡ None)
SealedFrom bs rs ws (Err f) = sealed_text bs ≡ Err f
