-- What writing a sealed case promises. Of the tables and the buffer it sees the lengths, and the plain case.
use Rattle.std.specs.Prelude.{◌≡◌, ℕ, false, cond, List, ◌++◌, length, take, drop, Some, None, Ok, Err, Result, nat_lt}
use Rattle.executions.specs.declared.faults.Cause.{Cause}
use Rattle.executions.specs.declared.faults.Cause.TheVariants.{TooShort, BufferTooShort}
use Rattle.executions.specs.declared.faults.Fault.{Fault}
use Rattle.executions.specs.declared.faults.Layer.TheVariants.{Text}
use Rattle.sources.specs.Source.{bounded}
use Rattle.wellformed.specs.Faults.{first_fault}
use Rattle.tables.specs.Plain.{Plain, short}
use Rattle.casetext.specs.Text.{text_of}
use Rattle.casetext.specs.Reading.{read_plain}
use Rattle.casetext.specs.Promises.{opened}

-- a refusal by write itself, and not by the check that it makes
abbrev pub write_refusal : Cause → Fault
write_refusal c = record { cause = c; layer = Text; place = 0 }

-- the text of a plain case
abbrev pub bytes_of : Plain → List ℕ
bytes_of p = text_of (bounded p.execution)

-- write tests the tables, then the case for its first fault, then the room in the buffer; it answers how many bytes the text has
abbrev pub write_plain : ℕ → ℕ → ℕ → Plain → Result ℕ Fault
write_plain records words room p =
    cond (short records words) (Err (write_refusal TooShort))
    (elim (first_fault (bounded p.execution)) as (λ _. Result ℕ Fault) [
      | Some f ↦ Err f
      | None ↦ cond (nat_lt room (length (bytes_of p))) (Err (write_refusal BufferTooShort)) (Ok (length (bytes_of p)))
    ])

-- the buffer then: the text in front and the rest as it was; after a refusal all of it as it was
abbrev pub buffer_after : Plain → List ℕ → Result ℕ Fault → List ℕ
buffer_after p xs (Ok n) = bytes_of p ++ drop n xs
buffer_after p xs (Err f) = xs

-- What write promises of a plain case, of the buffer before and after, and of its answer.
pub record Written (records words : ℕ) (p : Plain) (before after : List ℕ) (answer : Result ℕ Fault) : Type 0 where
  pub answers : answer ≡ write_plain records words (length before) p
  pub leaves : after ≡ buffer_after p before answer
  -- what was written is read, into any tables that are long enough, as just this case
  pub read_back : (n : ℕ) → answer ≡ Ok n → (rs ws : ℕ) → short rs ws ≡ false → read_plain rs ws (take n after) ≡ Ok (opened (bounded p.execution))
  -- a text that was read as this case is what is written
  pub same_text : (n : ℕ) → answer ≡ Ok n → (rs ws : ℕ) (bs : List ℕ) → read_plain rs ws bs ≡ Ok (opened p.execution) → take n after ≡ bs
