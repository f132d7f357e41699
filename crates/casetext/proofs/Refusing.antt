-- A text that is refused leaves blank tables.
use Rattle.std.proofs.Common.{◌≡◌, ℕ, Bool, true, false, cond, List, [], ◌++◌, length, drop, replicate, Ok, Err, Result, sym, refl, ap, ◌∙◌, ap₂, arith}
use Rattle.std.proofs.lemmas.List.{drop_at, length-replicate}
use Rattle.executions.specs.declared.events.Event.{Event}
use Rattle.executions.specs.declared.faults.Cause.TheVariants.{TooShort}
use Rattle.executions.specs.declared.faults.Fault.{Fault}
use Rattle.executions.specs.Execution.{unused}
use Rattle.tables.specs.declared.kinds.OpenCase.{OpenCase}
use Rattle.tables.specs.Plain.{Plain, blank, short, refusal, open_plain}
use Rattle.tables.specs.Tables.{tables, plain_of, Opened}
use Rattle.casetext.specs.declared.kinds.TextFault.{TextFault}
use Rattle.casetext.specs.Reading.{text_fault, start, scan, Tails, Reads}

not_opened : (f : Fault) → ◌≡◌ {A = Result Plain Fault} (Err f) (Ok blank) → ⊥
not_opened f e = let z : ◌≡◌ {A = ℕ} 0 1 = cc in absurd (omega arith)

-- tables that were opened are not short
pub opened_long : (records words : ℕ) → open_plain records words ≡ Ok blank → short records words ≡ false
opened_long records words e = go (short records words) e
  where
    go : (b : Bool) → cond b (Err (refusal TooShort 0)) (Ok blank) ≡ Ok blank → b ≡ false
    go true d = absurd (not_opened _ d)
    go false d = refl

-- tables that are not short are opened: zeros, and what stood past them
abbrev pub Zeros : List Event → List ℕ → List Event → List ℕ → Type 0
Zeros rs ws rs' ws' = (rs' ≡ replicate 64 unused ++ drop 64 rs) × (ws' ≡ replicate 384 0 ++ drop 384 ws)

pub opened : (rs : List Event) (ws : List ℕ) (rs' : List Event) (ws' : List ℕ) (r : Result OpenCase Fault) → short (length rs) (length ws) ≡ false → Opened rs ws rs' ws' r → Zeros rs ws rs' ws'
opened rs ws rs' ws' (Ok c) long o = (o.1, o.2)
opened rs ws rs' ws' (Err f) long o =
    absurd (not_opened f (sym o.0 ∙ ap (λ (b : Bool). cond b (Err (refusal TooShort 0)) (Ok blank)) long))

-- zeros leave the tails
pub zeros_tail : (rs : List Event) (ws : List ℕ) (rs' : List Event) (ws' : List ℕ) → Zeros rs ws rs' ws' → Tails rs ws rs' ws'
zeros_tail rs ws rs' ws' z = (
  ap (drop 64) z.0 ∙ drop_at (replicate 64 unused) (drop 64 rs) 64 (length-replicate {A = Event} 64 unused),
  ap (drop 384) z.1 ∙ drop_at (replicate 384 0) (drop 384 ws) 384 (length-replicate {A = ℕ} 384 0),
)

-- zeros over tables with the same tails
zeros_over : (rs : List Event) (ws : List ℕ) (rs1 : List Event) (ws1 : List ℕ) (rs' : List Event) (ws' : List ℕ) → Tails rs ws rs1 ws1 → Zeros rs1 ws1 rs' ws' → Zeros rs ws rs' ws'
zeros_over rs ws rs1 ws1 rs' ws' t z =
    (z.0 ∙ ap (λ d. replicate 64 unused ++ d) t.0, z.1 ∙ ap (λ d. replicate 384 0 ++ d) t.1)

both_tails : (rs : List Event) (ws : List ℕ) (rs1 : List Event) (ws1 : List ℕ) (rs2 : List Event) (ws2 : List ℕ) → Tails rs ws rs1 ws1 → Tails rs1 ws1 rs2 ws2 → Tails rs ws rs2 ws2
both_tails rs ws rs1 ws1 rs2 ws2 t u = (u.0 ∙ t.0, u.1 ∙ t.1)

-- the refusal of a line: opened, scanned up to a fault, opened again
pub refused_read : (bs : List ℕ) (rs : List Event) (ws : List ℕ) (rs1 : List Event) (ws1 : List ℕ) (rs2 : List Event) (ws2 : List ℕ) (rs3 : List Event) (ws3 : List ℕ)
    (c : OpenCase) (f : TextFault) (r : Result OpenCase Fault)
    → length rs1 ≡ length rs → length ws1 ≡ length ws → length rs2 ≡ length rs1 → length ws2 ≡ length ws1
    → Opened rs ws rs1 ws1 (Ok c) → scan (length rs1) (length ws1) start (plain_of (tables c rs1 ws1)) [] bs ≡ Err f → Tails rs1 ws1 rs2 ws2 → Opened rs2 ws2 rs3 ws3 r
    → Reads bs rs ws rs3 ws3 (Err f)
refused_read bs rs ws rs1 ws1 rs2 ws2 rs3 ws3 c f r e1 k1 e2 k2 first scanned tails again =
    let long = opened_long (length rs) (length ws) first.0 in
    let long2 : short (length rs2) (length ws2) ≡ false = ap₂ short (e2 ∙ e1) (k2 ∙ k1) ∙ long in
    let zero = opened rs ws rs1 ws1 (Ok c) long first in
    let zero2 = opened rs2 ws2 rs3 ws3 r long2 again in (
      ap (λ (b : Bool). cond b (Err (text_fault TooShort 0)) (scan (length rs) (length ws) start blank [] bs)) long
          ∙ ap₂ (λ (n m : ℕ). scan n m start blank [] bs) (sym e1) (sym k1)
          ∙ ap (λ p. scan (length rs1) (length ws1) start p [] bs) (sym first.3.0) ∙ scanned,
      rw long (zeros_over rs ws rs2 ws2 rs3 ws3 (both_tails rs ws rs1 ws1 rs2 ws2 (zeros_tail rs ws rs1 ws1 zero) tails) zero2),
    )
