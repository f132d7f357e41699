-- Just the texts of cases are read.
use Rattle.std.proofs.Common.{◌≡◌, ℕ, Bool, true, false, cond, List, [], length, Ok, Err, Result, sym, refl, ap, ◌∙◌, subst, arith}
use Rattle.executions.specs.declared.events.Event.{Event}
use Rattle.executions.specs.declared.faults.Cause.TheVariants.{TooShort}
use Rattle.executions.specs.Execution.{Execution}
use Rattle.tables.specs.declared.kinds.OpenCase.{OpenCase}
use Rattle.tables.specs.Plain.{Plain, blank, short}
use Rattle.tables.specs.Tables.{tables, plain_of, Represents}
use Rattle.casetext.specs.declared.kinds.TextFault.{TextFault}
use Rattle.casetext.specs.Text.{text_of}
use Rattle.casetext.specs.Reading.{text_fault, start, scan, read_plain, Reads}
use Rattle.casetext.specs.Entered.{Case}
use Rattle.casetext.specs.Promises.{opened, Spells}
use Rattle.casetext.proofs.Backward.{Text, read_back, no_case}
use Rattle.casetext.proofs.Forward.{forward}

-- a text that is accepted
pub read_text : (records words : ℕ) (bs : List ℕ) (p : Plain) → read_plain records words bs ≡ Ok p → Text bs p
read_text records words bs p e = go (short records words) e
  where
    go : (b : Bool) → cond b (Err (text_fault TooShort 0)) (scan records words start blank [] bs) ≡ Ok p → Text bs p
    go true k = absurd (no_case _ p k)
    go false k = read_back records words bs p k

pub read_is_text : (records words : ℕ) (bs : List ℕ) (x : Execution) → read_plain records words bs ≡ Ok (opened x) → Case x × (bs ≡ text_of x)
read_is_text records words bs x e = let text = read_text records words bs (opened x) e in (text.case, text.whole)

-- the text of a case
pub text_read : (records words : ℕ) (x : Execution) → short records words ≡ false → Case x → read_plain records words (text_of x) ≡ Ok (opened x)
text_read records words x long c = rw long (forward records words long x c)

pub spells : (bs : List ℕ) (rs : List Event) (ws : List ℕ) (rs' : List Event) (ws' : List ℕ) (r : Result OpenCase TextFault) → Reads bs rs ws rs' ws' r → Spells bs (length rs) (length ws) rs' ws' r
spells bs rs ws rs' ws' (Ok c) read = record {
  only_texts = λ d e.
      let same : c ≡ d = cc in
      let text = read_text (length rs) (length ws) bs read.0 read.1 in
      let plain : read.0 ≡ plain_of (tables d rs' ws') = sym read.2.0 ∙ ap (λ k. plain_of (tables k rs' ws')) same in
      subst (λ (p : Plain). Case p.execution × (bs ≡ text_of p.execution)) plain (text.case, text.whole);
  all_texts = λ x case e long.
      let back : read.0 ≡ opened x = cc (read.1, ap (read_plain (length rs) (length ws)) e, text_read (length rs) (length ws) x long case) in
      (c, refl, subst (λ (p : Plain). Represents (tables c rs' ws') p) back read.2);
}
spells bs rs ws rs' ws' (Err f) read = record {
  only_texts = λ d e. let z : ◌≡◌ {A = ℕ} 0 1 = cc in absurd (omega arith);
  all_texts = λ x case e long.
      absurd (no_case f (opened x) (sym read.0 ∙ ap (read_plain (length rs) (length ws)) e ∙ text_read (length rs) (length ws) x long case));
}
