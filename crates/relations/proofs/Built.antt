-- A relation made row by row: the first rows are what a closure answered, as far as its numbers are below the events.
use Rattle.std.proofs.Common.{◌≡◌, ℕ, ◌+◌, ◌-◌, ◌^◌, ◌<◌, ◌≤◌, true, ltb, List, ◌++◌, length, get_or, set, drop, replicate, take, sym, refl, ap, ◌∙◌, ⊎_elim, arith}
use mathlib.Core.Path.{fun_ext}
use lib.Bits.{bit_and}
use Rattle.std.proofs.lemmas.List.{get_or-set_same, get_or-set_other, get_or_append_left, get_or-append_right, get_or-drop, length-take-le}
use Rattle.std.proofs.lemmas.Bool.{cases_lt, cases_eq, ltb-true, and_parts, both_ways}
use Rattle.std.proofs.lemmas.Bool.Decides.{nat_tests}
use Rattle.rows.specs.Row.{bit, below}
use Rattle.rows.proofs.Bits.{bit-bit_and, bit_zero}
use Rattle.relations.specs.Algebra.{Rel, within}
use Rattle.relations.specs.Table.{table, On, HasRows}
use Rattle.relations.specs.View.{rel, size}
use Rattle.relations.specs.declared.kinds.Relation.{Relation}
use Rattle.relations.proofs.Tables.{zeros_at, table_at, table_far, table_parts, both_same}
use Rattle.relations.proofs.Ranges.{on_rel}

-- 64 empty rows
abbrev empties : List ℕ
empties = replicate 64 0

-- ---- the loop that makes the rows

module _ (answers : ℕ → ℕ → Type 0) (mask : ℕ) where
  -- the first i rows are words that are allowed there, each cut by the mask
  pub record Filled (rows : List ℕ) (i : ℕ) : Type 0 where
    pub front : (a : ℕ) → a < i → (w : ℕ) × (w < 2 ^ 64) × answers a w × (get_or rows a 0 ≡ bit_and w mask)

  pub filled_none : (rows : List ℕ) → Filled rows 0
  filled_none rows = record { front = λ a l. absurd (omega arith) }

  pub filled_more : (rows : List ℕ) (i w : ℕ) → i < length rows → Filled rows i → w < 2 ^ 64 → answers i w → Filled (set rows i (bit_and w mask)) (i + 1)
  filled_more rows i w h f fits new = record { front = λ a l. ⊎_elim (same a) (other a l) (cases_eq a i) }
    where
      same : (a : ℕ) → a ≡ i → (v : ℕ) × (v < 2 ^ 64) × answers a v × (get_or (set rows i (bit_and w mask)) a 0 ≡ bit_and v mask)
      same a e = rw e (w, fits, new, get_or-set_same rows i (bit_and w mask) 0 h)

      other : (a : ℕ) → a < i + 1 → (a ≡ i → ⊥) → (v : ℕ) × (v < 2 ^ 64) × answers a v × (get_or (set rows i (bit_and w mask)) a 0 ≡ bit_and v mask)
      other a l n =
          let f = f.front a (omega arith) in
          (f.0, f.1, f.2, get_or-set_other rows i a (bit_and w mask) 0 n ∙ f.3)

  -- ---- and all rows, those past the events still empty
  module _ (n i : ℕ) (rows : List ℕ) (same : length rows ≡ length (take n empties)) (end : length (take n empties) ≤ i)
      (few : n ≤ 64) (cut : bit mask ≡ below n) (f : Filled rows i) where
    long : length rows ≡ n
    long = same ∙ length-take-le n empties few

    inside : (a : ℕ) → a < n → get_or (rows ++ drop n empties) a 0 ≡ get_or rows a 0
    inside a l = grind (arith, nat_tests, get_or_append_left, long)

    past : (a : ℕ) → n ≤ a → ◌≡◌ {A = ℕ} (get_or (rows ++ drop n empties) a 0) 0
    past a l = get_or-append_right rows (drop n empties) n a 0 long l ∙ get_or-drop n empties (a - n) 0 ∙ zeros_at (n + (a - n))

    pub filled_rows : (m : ℕ) → n ≡ m → HasRows m answers (table (rows ++ drop n empties))
    unfolding within below
    filled_rows m e a l =
        let f = f.front a (omega (arith, long)) in
        (f.0, f.1, f.2, fun_ext λ b. ⊎_elim (near f.0 f.3 b) (far f.0 b) (cases_lt b 64))
      where
        near : (w : ℕ) → get_or rows a 0 ≡ bit_and w mask → (b : ℕ) → b < 64 → table (rows ++ drop n empties) a b ≡ within m (bit w) b
        near w z b k = table_at _ a b (omega arith) k ∙ rw (inside a (omega arith), z, bit-bit_and w mask b, cut) (grind (arith, nat_tests))

        far : (w b : ℕ) → 64 ≤ b → table (rows ++ drop n empties) a b ≡ within m (bit w) b
        far w b k = table_far _ a b k ∙ grind (arith, nat_tests)

    pub filled_on : On n (table (rows ++ drop n empties))
    unfolding within
    filled_on a b h = ⊎_elim (λ l. (l, inner l)) (λ l. absurd (both_ways _ (ap (λ (v : ℕ). bit v b) (past a l) ∙ bit_zero b) (table_parts _ a b h).2)) (cases_lt a n)
      where
        inner : a < n → b < n
        inner l = let e = filled_rows n refl a l in ltb-true b n (and_parts (ltb b n) (bit e.0 b) (sym (ap (λ (s : ℕ → _). s b) e.3) ∙ h)).0

-- ---- the relation that was made

-- a relation on n events is r, where r has the rows that were allowed
pub rows_are : (x : Relation) (n : ℕ) (r : Rel) {answers : ℕ → ℕ → Type 0} → size x ≡ n → On n r → HasRows n answers (rel x)
    → ((a w : ℕ) → a < n → w < 2 ^ 64 → answers a w → (b : ℕ) → b < n → bit w b ≡ r a b) → rel x ≡ r
unfolding within
rows_are x n r long on made allowed = fun_ext λ a. fun_ext λ b. both_same (rel x a b) (r a b) (there a b) (back a b)
  where
    at : (a b : ℕ) → a < n → b < n → rel x a b ≡ r a b
    at a b l k =
        let e = made a l in
        ap (λ (s : ℕ → _). s b) e.3 ∙ rw (allowed a e.0 l e.1 e.2 b k) (grind (arith, nat_tests))

    there : (a b : ℕ) → rel x a b ≡ true → r a b ≡ true
    there a b h = let p = on_rel x a b h in sym (at a b (omega (arith, p)) (omega (arith, p))) ∙ h

    back : (a b : ℕ) → r a b ≡ true → rel x a b ≡ true
    back a b h = let p = on a b h in at a b p.0 p.1 ∙ h
