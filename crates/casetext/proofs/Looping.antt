-- The loop over the lines: what is left of a text gives what the whole text gives.
use Rattle.std.proofs.Common.{◌≡◌, ℕ, ◌<◌, Bool, true, false, cond, ◌&&◌, List, [], ◌∷◌, length, Some, None, Ok, Err, Result, sym, refl, ap, ◌∙◌, ap₂, subst₂, arith}
use Rattle.std.proofs.lemmas.List.{length-append, nil_from_length}
use Rattle.executions.specs.declared.faults.Cause.TheVariants.{LineForm}
use Rattle.tables.specs.Plain.{Plain}
use Rattle.tables.specs.Tables.{Tables, plain_of, Exact, Does}
use Rattle.caselines.specs.Fields.{cut}
use Rattle.caselines.proofs.Cutting.{cut_halves}
use Rattle.casetext.specs.declared.kinds.Reader.{Reader}
use Rattle.casetext.specs.declared.kinds.TextFault.{TextFault}
use Rattle.casetext.specs.Reading.{text_fault, line_step, done, empty, scan}
use Rattle.casetext.proofs.Scanning.{scan_cut, scan_end, onward_ok, onward_err, Bounded, line_bounded}

pub exact_more : {A : Type 0} (step : Plain → Plain × A) (t t' : Tables) (r : A) → Does step t t' r → Exact t → Exact t'
exact_more step t t' r d x = (d.on_exact (plain_of t) (refl, x)).0.1

pub shorter : (bs l rest : List ℕ) → cut 10 bs ≡ Some (l, rest) → length rest < length bs
shorter bs l rest e = let halves = cut_halves 10 bs l rest e in omega (arith, ap length halves.whole, length-append l (10 ∷ rest))

module _ (R W records words : ℕ) (same_records : records ≡ R) (same_words : words ≡ W) (whole : Result Plain TextFault) (s : Reader) (t : Tables) (bs : List ℕ)
    (so_far : whole ≡ scan R W s (plain_of t) [] bs) where
  moved_on : {r : Result Reader TextFault} (l : List ℕ) (t' : Tables) → Does (line_step records words s l) t t' r → (plain_of t', r) ≡ line_step R W s l (plain_of t)
  moved_on {r = r} l t' d =
      subst₂ (λ (n m : ℕ). (plain_of t', r) ≡ line_step n m s l (plain_of t)) same_records same_words d.on_any

  pub lines_more : (l rest : List ℕ) (t' : Tables) (n : Reader) → cut 10 bs ≡ Some (l, rest) → Does (line_step records words s l) t t' (Ok n)
      → whole ≡ scan R W n (plain_of t') [] rest
  lines_more l rest t' n e d =
      so_far ∙ scan_cut R W s (plain_of t) bs l rest e ∙ onward_ok R W s (plain_of t) l rest n (plain_of t') (moved_on l t' d)

  pub lines_bounded : (l : List ℕ) (t' : Tables) (n : Reader) → Does (line_step records words s l) t t' (Ok n) → Bounded s → Bounded n
  lines_bounded l t' n d = line_bounded R W s l (plain_of t) n (ap (λ q. q.1) (sym (moved_on l t' d)))

  pub lines_fail : (l rest : List ℕ) (t' : Tables) (f : TextFault) → cut 10 bs ≡ Some (l, rest) → Does (line_step records words s l) t t' (Err f) → whole ≡ Err f
  lines_fail l rest t' f e d =
      so_far ∙ scan_cut R W s (plain_of t) bs l rest e ∙ onward_err R W s (plain_of t) l rest f (plain_of t') (moved_on l t' d)

  pub lines_end : cut 10 bs ≡ None → done s ≡ true → length bs ≡ 0 → whole ≡ Ok (plain_of t)
  lines_end e d z =
      so_far ∙ scan_end R W s (plain_of t) bs e
      ∙ ap₂ (λ (x : Bool) (l : List ℕ). cond (x && empty l) (Ok (plain_of t)) (Err (text_fault LineForm s.line))) d (nil_from_length bs z)

  pub lines_open : cut 10 bs ≡ None → done s ≡ false → whole ≡ Err (text_fault LineForm s.line)
  lines_open e d = so_far ∙ scan_end R W s (plain_of t) bs e ∙ ap (λ (x : Bool). cond (x && empty bs) (Ok (plain_of t)) (Err (text_fault LineForm s.line))) d

  pub lines_rest : cut 10 bs ≡ None → (length bs ≡ 0 → ⊥) → whole ≡ Err (text_fault LineForm s.line)
  lines_rest e n = so_far ∙ scan_end R W s (plain_of t) bs e ∙ go bs n (done s)
    where
      go : (l : List ℕ) → (length l ≡ 0 → ⊥) → (x : Bool) → cond (x && empty l) (Ok (plain_of t)) (Err (text_fault LineForm s.line)) ≡ Err (text_fault LineForm s.line)
      go [] m x = absurd (m refl)
      go (c ∷ l) m true = refl
      go (c ∷ l) m false = refl
