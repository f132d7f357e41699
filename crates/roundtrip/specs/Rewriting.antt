-- What comes of a text that is read, sealed and written back.
use Rattle.std.specs.Prelude.{◌≡◌, ℕ, cond, List, ◌++◌, length, drop, Ok, Err, Result, nat_lt}
use Rattle.executions.specs.declared.events.Event.{Event}
use Rattle.executions.specs.declared.faults.Cause.TheVariants.{BufferTooShort}
use Rattle.executions.specs.declared.faults.Fault.{Fault}
use Rattle.executions.specs.Execution.{Execution, count}
use Rattle.sources.specs.declared.kinds.Snapshot.{Snapshot}
use Rattle.sources.specs.Snapshot.{execution}
use Rattle.sources.specs.Source.{bounded}
use Rattle.tables.specs.declared.kinds.SealedCase.{SealedCase}
use Rattle.tables.specs.Plain.{seal_plain}
use Rattle.tables.specs.Tables.{sealed_plain}
use Rattle.casetext.specs.Text.{ties_in}
use Rattle.casewriter.specs.Written.{write_refusal}
use Rattle.roundtrip.specs.declared.kinds.Account.{Account}
use Rattle.intake.specs.declared.kinds.Refusal.{Refusal}
use Rattle.intake.specs.Sealing.{of_case, sealed_text}

-- how much a case has, and how long its text is
abbrev pub account_of : Execution → ℕ → Account
account_of x n = record { events = count x; ties = length (ties_in x); bytes = n }

-- what is sealed is written into a buffer with room for it
abbrev pub written_as : ℕ → ℕ → Result Execution Refusal → Result Account Refusal
written_as room n (Err f) = Err f
written_as room n (Ok x) = cond (nat_lt room n) (Err (of_case (write_refusal BufferTooShort))) (Ok (account_of x n))

-- a text is read, sealed and written back: as many bytes as it has
abbrev pub rewrite_plain : ℕ → List ℕ → Result Account Refusal
rewrite_plain room bs = written_as room (length bs) (sealed_text bs)

-- the buffer then: the very text in front, and the rest as it was; after a refusal all of it as it was
abbrev pub rewritten : List ℕ → List ℕ → Result Account Refusal → List ℕ
rewritten bs before (Ok a) = bs ++ drop (length bs) before
rewritten bs before (Err f) = before

pub record Rewritten (bs before after : List ℕ) (answer : Result Account Refusal) : Type 0 where
  pub answers : answer ≡ rewrite_plain (length before) bs
  pub leaves : after ≡ rewritten bs before answer

-- a sealed case was copied from its tables, or has a fault
abbrev pub CopiedFrom : ℕ → ℕ → SealedCase → List Event → List ℕ → Result Snapshot Fault → Type 0
CopiedFrom records words c rs ws (Ok s) = execution s ≡ bounded (sealed_plain c rs ws).execution
CopiedFrom records words c rs ws (Err f) = (seal_plain records words (sealed_plain c rs ws)).1 ≡ Err f
