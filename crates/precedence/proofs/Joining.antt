-- Two ways joined, and the rows of a sheet with a relay besides.
use Rattle.std.proofs.lemmas.Bool.Decides.{nat_tests}
use Rattle.std.proofs.Common.{◌≡◌, ℕ, ◌+◌, ◌-◌, ◌<◌, ◌≤◌, max, List, [], length, get_or, set, replicate, sym, refl, ap, ◌∙◌, subst, ⊎_elim, arith}
use mathlib.Core.Path.{fun_ext}
use Rattle.std.proofs.lemmas.List.{get_or-set_same, get_or-set_other, length-set, get_or-replicate}
use Rattle.std.proofs.lemmas.Bool.{cases_eq, cases_lt}
use Rattle.relations.specs.Algebra.{Set}
use Rattle.grace.specs.Sheet.{Sheet, Fits, most, joined, relayed}
use Rattle.precedence.specs.Rows.{cells, sheet}
use Rattle.precedence.proofs.Cells.{sheet_past, zero_cells}
use Rattle.precedence.proofs.Largest.{most_zero}
use Rattle.grace.proofs.Sheets.{joined_none}

pub joined_second : (i j u v : ℕ) → v ≡ 0 → joined i j u v ≡ 0
unfolding joined
joined_second i j u v e = grind (arith, nat_tests)

pub joined_both : (i j u v : ℕ) → (u ≡ 0 → ⊥) → (v ≡ 0 → ⊥) → joined i j u v ≡ (u + v + i) - (128 + j)
unfolding joined
joined_both i j u v f g = grind (arith, nat_tests)

-- a joined entry of a sheet that fits is a byte
pub joined_fits : (m : Sheet) (into out : Set) (i j a b : ℕ) → Fits (relayed m into out i j) → joined i j (most 64 into (m a)) (most 64 out (λ d. m d b)) ≤ 255
unfolding relayed
joined_fits m into out i j a b fits = grind (arith, nat_tests)

-- ---- a loop over the rows: the first i are those of the new sheet, the others still as they were

pub record Rowed (m old : List (List ℕ)) (i : ℕ) (new : Sheet) : Type 0 where
  pub long : length m ≡ 64
  pub front : (k : ℕ) → k < i → sheet m k ≡ new k
  pub rest : (k : ℕ) → i ≤ k → get_or m k [] ≡ get_or old k []

pub rowed_none : (old : List (List ℕ)) (new : Sheet) → length old ≡ 64 → Rowed old old 0 new
rowed_none old new long = grind (arith, nat_tests)

rowed_set : (m old : List (List ℕ)) (i : ℕ) (row : List ℕ) (new : Sheet) → i < 64 → Rowed m old i new → cells row ≡ new i → Rowed (set m i row) old (i + 1) new
unfolding sheet
rowed_set m old i row new l u e = grind (arith, nat_tests, length-set, get_or-set_same, get_or-set_other)

rowed_same : (m old : List (List ℕ)) (i : ℕ) (new : Sheet) → Rowed m old i new → sheet old i ≡ new i → Rowed m old (i + 1) new
unfolding sheet
rowed_same m old i new u e = record {
  long = u.long;
  front = λ k h. ⊎_elim (λ z. rw z (ap cells (u.rest i (omega arith)) ∙ e)) (λ z. u.front k (omega arith)) (cases_eq k i);
  rest = λ k h. u.rest k (omega arith);
}

pub rowed_more : (m m' old : List (List ℕ)) (i : ℕ) (row : List ℕ) (new : Sheet) → m' ≡ set m i row → i < 64 → Rowed m old i new → cells row ≡ new i → Rowed m' old (i + 1) new
rowed_more m m' old i row new is l u e = subst (λ (k : List (List ℕ)). Rowed k old (i + 1) new) (sym is) (rowed_set m old i row new l u e)

-- a row that stays
pub rowed_skip : (m m' old : List (List ℕ)) (i : ℕ) (new : Sheet) → m' ≡ m → Rowed m old i new → sheet old i ≡ new i → Rowed m' old (i + 1) new
rowed_skip m m' old i new is u e = subst (λ (k : List (List ℕ)). Rowed k old (i + 1) new) (sym is) (rowed_same m old i new u e)

pub rowed_all : (m old : List (List ℕ)) (i : ℕ) (new : Sheet) → 64 ≤ i → Rowed m old i new → ((a b : ℕ) → 64 ≤ a → new a b ≡ 0) → sheet m ≡ new
rowed_all m old i new le u far = grind (arith, nat_tests, sheet_past)

-- a sheet of zeros of which the first n rows were set, where the others stay 0
pub rowed_short : (m : List (List ℕ)) (i n : ℕ) (new : Sheet) → n ≤ i → n ≤ 64 → Rowed m (replicate 64 (replicate 64 0)) i new → ((a b : ℕ) → n ≤ a → new a b ≡ 0) → sheet m ≡ new
unfolding sheet
rowed_short m i n new le few u far = fun_ext λ a. ⊎_elim (λ l. u.front a l) (λ l. ⊎_elim (inside a l) (outside a l) (cases_lt a 64)) (cases_lt a i)
  where
    inside : (a : ℕ) → i ≤ a → a < 64 → cells (get_or m a []) ≡ new a
    inside a l k = fun_ext λ b. ap (λ (r : List ℕ). cells r b) (u.rest a l ∙ get_or-replicate 64 a (replicate 64 0) [] k) ∙ zero_cells b ∙ sym (far a b (omega arith))

    outside : (a : ℕ) → i ≤ a → 64 ≤ a → cells (get_or m a []) ≡ new a
    outside a l k = fun_ext λ b. sheet_past m a b u.long k ∙ sym (far a b (omega arith))

-- the row at i as the loop finds it
pub rowed_here : (m old : List (List ℕ)) (i : ℕ) (new : Sheet) → Rowed m old i new → cells (get_or m i []) ≡ sheet old i
unfolding sheet
rowed_here m old i new u = ap cells (u.rest i (omega arith))

-- ---- the rows of the relayed sheet

module _ (m : List (List ℕ)) (into out : Set) (i j : ℕ) (reach on : ℕ → ℕ)
    (r : reach ≡ (λ d. most 64 into (sheet m d))) (o : on ≡ (λ b. most 64 out (λ d. sheet m d b))) where
  pub relayed_row : (a : ℕ) (row : ℕ → ℕ) → row ≡ (λ b. max (sheet m a b) (joined i j (reach a) (on b))) → row ≡ relayed (sheet m) into out i j a
  unfolding relayed
  relayed_row a row e = rw (e, r, o) refl

  pub relayed_still : (a : ℕ) → reach a ≡ 0 → sheet m a ≡ relayed (sheet m) into out i j a
  unfolding relayed
  relayed_still a e = grind (arith, nat_tests, joined_none)

  pub relayed_byte : (a : ℕ) → Fits (relayed (sheet m) into out i j) → (b : ℕ) → joined i j (reach a) (on b) ≤ 255
  relayed_byte a fits b = rw (r, o) (joined_fits (sheet m) into out i j a b fits)

pub relayed_far : (m : List (List ℕ)) (into out : Set) (i j a b : ℕ) → length m ≡ 64 → 64 ≤ a → relayed (sheet m) into out i j a b ≡ 0
unfolding relayed
relayed_far m into out i j a b long l = grind (arith, nat_tests, joined_none, most_zero, sheet_past)
