-- What is written is read back, and what was read is written back.
use Rattle.std.proofs.lemmas.Bool.Decides.{nat_tests}
use Rattle.std.proofs.Common.{◌≡◌, ℕ, ◌<◌, ◌≤◌, true, false, List, ◌++◌, length, take, drop, Some, None, Ok, Err, Option, sym, ap, ◌∙◌, arith}
use Rattle.std.proofs.lemmas.List.{take-append-le, take_all}
use Rattle.std.proofs.ByRecursion.{All-from_get_or}
use Rattle.executions.specs.declared.ties.Relation.{Relation}
use Rattle.executions.specs.Events.{in_range}
use Rattle.executions.specs.Execution.{Execution, count, unused}
use Rattle.sources.specs.Source.{bounded}
use Rattle.wellformed.specs.Faults.{first_fault}
use Rattle.sources.specs.declared.kinds.Snapshot.{Snapshot}
use Rattle.sources.specs.Snapshot.{execution}
use Rattle.wellformed.specs.WellFormed.{WellFormed, Checked}
use Rattle.tables.specs.Plain.{Plain, short}
use Rattle.casetext.specs.Entered.{Case}
use Rattle.casetext.specs.Text.{text_of}
use Rattle.casetext.specs.Reading.{read_plain}
use Rattle.casetext.specs.Promises.{opened}
use Rattle.casetext.proofs.Roundtrip.{read_is_text, text_read}
use Rattle.casewriter.specs.Laid.{Writes}
use Rattle.std.specs.Option.{ok_or}
use Rattle.executions.specs.declared.faults.Cause.TheVariants.{BufferTooShort}
use Rattle.casewriter.specs.Written.{bytes_of, write_refusal, Written}

-- a tie that counts comes from an event
from_event : (x : Execution) (r : Relation) (a b : ℕ) → (bounded x).ties r a b ≡ true → a < count x
from_event x r a b h = grind (arith, nat_tests)

-- a well-formed case is one that the calls enter
well_formed_case : (x : Execution) → WellFormed (bounded x) → Case (bounded x)
well_formed_case x w = record {
  few = w.few;
  range = All-from_get_or (λ e. in_range e ≡ true) x.events unused w.ranged;
  inside = λ r a b h. (from_event x r a b h, w.ends r a b h);
  fit = w.fitting;
  one_rf = λ a b c h k. w.one_rf a b c h k;
  one_rmw = w.one_rmw;
}

-- every tie of a case counts
case_bounded : (x : Execution) → Case x → bounded x ≡ x
case_bounded x c = grind (arith, nat_tests)

-- a text that is read as a case is its text
pub read_bytes : (p : Plain) (rs ws : ℕ) (bs : List ℕ) → read_plain rs ws bs ≡ Ok (opened p.execution) → bytes_of p ≡ bs
read_bytes p rs ws bs read = let text = read_is_text rs ws bs p.execution read in ap text_of (case_bounded p.execution text.0) ∙ sym text.1

-- the front of a buffer that begins with some bytes
front : (n : ℕ) (bs rest : List ℕ) → n ≡ length bs → take n (bs ++ rest) ≡ bs
front n bs rest e = grind (arith, nat_tests, take-append-le, take_all)

-- a well-formed case whose text has room
accepted : (records words : ℕ) (p : Plain) (xs ys : List ℕ) (n : ℕ) → short records words ≡ false → first_fault (bounded p.execution) ≡ None → WellFormed (bounded p.execution)
    → length (bytes_of p) ≤ length xs → n ≡ length (bytes_of p) → ys ≡ bytes_of p ++ drop (length (bytes_of p)) xs → Written records words p xs ys (Ok n)
accepted records words p xs ys n long none well room counted bytes = grind (arith, nat_tests, well_formed_case, front, text_read, read_bytes)

-- a well-formed case whose text has no room
declined : (records words : ℕ) (p : Plain) (xs ys : List ℕ) → short records words ≡ false → first_fault (bounded p.execution) ≡ None → length xs < length (bytes_of p) → ys ≡ xs
    → Written records words p xs ys (Err (write_refusal BufferTooShort))
declined records words p xs ys long none full kept = grind (arith, nat_tests)

-- a checked copy of what the tables hold, written
pub copy_written : (records words : ℕ) (p : Plain) (s : Snapshot) (held : Execution) (xs ys : List ℕ) (o : Option ℕ) → short records words ≡ false → held ≡ p.execution
    → Checked (bounded held) (Ok s) → Writes (text_of (execution s)) xs ys o → Written records words p xs ys (ok_or o (write_refusal BufferTooShort))
copy_written records words p s held xs ys o long same checked writes =
    let here : Checked (bounded p.execution) (Ok s) = rw same at checked in
    by o (rw here.0 at writes) here
  where
    by : (o : Option ℕ) → Writes (bytes_of p) xs ys o → Checked (bounded p.execution) (Ok s) → Written records words p xs ys (ok_or o (write_refusal BufferTooShort))
    by (Some n) written here = accepted records words p xs ys n long here.1 here.2 written.0 written.1 written.2
    by None written here = declined records words p xs ys long here.1 written.0 written.1
