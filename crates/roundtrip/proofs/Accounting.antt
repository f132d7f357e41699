-- What reading, sealing and writing come to together.
use Rattle.std.proofs.Common.{◌≡◌, ℕ, Bool, true, false, cond, ltb, List, ◌++◌, length, drop, None, Ok, Err, Result, sym, refl, ap, ◌∙◌, ap₂, arith}
use Rattle.executions.specs.declared.faults.Cause.TheVariants.{BufferTooShort}
use Rattle.executions.specs.declared.faults.Fault.{Fault}
use Rattle.sources.specs.declared.kinds.Snapshot.{Snapshot}
use Rattle.sources.specs.Snapshot.{execution}
use Rattle.sources.specs.Source.{bounded}
use Rattle.wellformed.specs.Faults.{first_fault}
use Rattle.tables.specs.Plain.{Plain}
use Rattle.casetext.specs.Reading.{read_plain}
use Rattle.casetext.specs.Promises.{opened}
use Rattle.casewriter.specs.Written.{write_refusal, write_plain, Written}
use Rattle.casewriter.proofs.Returning.{read_bytes}
use Rattle.intake.specs.Sealing.{of_case}
use Rattle.intake.proofs.Unsealed.{sealed_so}
use Rattle.roundtrip.specs.Rewriting.{account_of, written_as, Rewritten}

-- what a test of the room tells by its answer
roomy : {A : Type 0} (b : Bool) (n m : A) (f : Fault) → ◌≡◌ {A = Result A Fault} (Ok n) (cond b (Err f) (Ok m)) → (b ≡ false) × (n ≡ m)
roomy true n m f e = let z : ◌≡◌ {A = ℕ} 0 1 = cc in absurd (omega arith)
roomy false n m f e = (refl, cc)

tight : {A : Type 0} (b : Bool) (m : A) (g f : Fault) → ◌≡◌ {A = Result A Fault} (Err g) (cond b (Err f) (Ok m)) → (b ≡ true) × (g ≡ f)
tight true m g f e = (refl, cc)
tight false m g f e = let z : ◌≡◌ {A = ℕ} 0 1 = cc in absurd (omega arith)

-- what write answers of a text that was read and sealed
write_tests : (bs before : List ℕ) (p : Plain) → read_plain 64 384 bs ≡ Ok (opened p.execution) → first_fault (bounded p.execution) ≡ None
    → (records words : ℕ) → records ≡ 64 → words ≡ 384 → write_plain records words (length before) p ≡ cond (ltb (length before) (length bs)) (Err (write_refusal BufferTooShort)) (Ok (length bs))
write_tests bs before p read none records words r w =
    rw (r, w, none) (ap (λ (l : List ℕ). cond (ltb (length before) (length l)) (Err (write_refusal BufferTooShort)) (Ok (length l))) (read_bytes p 64 384 bs read))

pub written_back : (bs before after : List ℕ) (p : Plain) (s : Snapshot) (n : ℕ) → read_plain 64 384 bs ≡ Ok (opened p.execution) → first_fault (bounded p.execution) ≡ None
    → execution s ≡ bounded p.execution → (records words : ℕ) → records ≡ 64 → words ≡ 384 → Written records words p before after (Ok n) → Rewritten bs before after (Ok (account_of (execution s) n))
written_back bs before after p s n read none copy records words r w written =
    let room = roomy (ltb (length before) (length bs)) n (length bs) (write_refusal BufferTooShort) (written.answers ∙ write_tests bs before p read none records words r w) in
    record {
      answers =
          ap₂ (λ x k. Ok (account_of x k)) copy room.1
          ∙ sym (ap (λ t. cond t (Err (of_case (write_refusal BufferTooShort))) (Ok (account_of (bounded p.execution) (length bs)))) room.0)
          ∙ sym (ap (written_as (length before) (length bs)) (sealed_so bs p.execution read none));
      leaves = written.leaves ∙ ap₂ (λ (l : List ℕ) (k : ℕ). l ++ drop k before) (read_bytes p 64 384 bs read) room.1;
    }

pub not_written : (bs before after : List ℕ) (p : Plain) (f : Fault) → read_plain 64 384 bs ≡ Ok (opened p.execution) → first_fault (bounded p.execution) ≡ None
    → (records words : ℕ) → records ≡ 64 → words ≡ 384 → Written records words p before after (Err f) → Rewritten bs before after (Err (of_case f))
not_written bs before after p f read none records words r w written =
    let room = tight (ltb (length before) (length bs)) (length bs) f (write_refusal BufferTooShort) (written.answers ∙ write_tests bs before p read none records words r w) in
    record {
      answers =
          ap (λ g. Err (of_case g)) room.1
          ∙ sym (ap (λ t. cond t (Err (of_case (write_refusal BufferTooShort))) (Ok (account_of (bounded p.execution) (length bs)))) room.0)
          ∙ sym (ap (written_as (length before) (length bs)) (sealed_so bs p.execution read none));
      leaves = written.leaves;
    }
