-- The fence pairs of a table, from products of words.
use Rattle.std.proofs.Common.{arith}
use Rattle.std.proofs.lemmas.Bool.Decides.{nat_tests}
use Rattle.std.proofs.Common.{◌≡◌, ℕ, ◌+◌, ◌-◌, ◌^◌, ◌<◌, Bool, true, false, cond, not, ◌&&◌, ◌||◌, sym, refl, ap, ◌∙◌, ap₂, ⊎_elim, add-one}
use mathlib.Core.Path.{fun_ext}
use mathlib.Core.Bool.{and_assoc, and_comm, or-false}
use lib.Bits.{bit_and}
use Rattle.std.proofs.lemmas.Bool.{or_cases, or_left, or_right, false_from_ne_true}
use Rattle.rows.specs.Row.{bit}
use Rattle.rows.proofs.Bits.{bit-bit_and, bit_not}
use Rattle.rows.proofs.Any.{any_some, any_from}
use Rattle.relations.specs.Algebra.{Set, Rel, any, empty, union, inverse, product, within, image}
use Rattle.relations.proofs.Images.{image_some}
use Rattle.relations.proofs.Tables.{both_same}
use Rattle.grace.specs.Scene.{Scene, Within}
use Rattle.grace.specs.Law.{Table, pair, before_unlock, from_on, section_first, period_first, entry, pairs}
use Rattle.precedence.specs.Fences.{section_row, period_row, lock_pairs, pairs_below}
use Rattle.settings.proofs.Meeting.{any_same}

-- ---- tests on some number

any_and : (n : ℕ) (t : Bool) (p : Set) → (t && any n p) ≡ any n (λ k. t && p k)
any_and n true p = refl
any_and n false p = grind (arith, nat_tests, false_from_ne_true, any_some)

any_or : (n : ℕ) (p q : Set) → (any n p || any n q) ≡ any n (λ k. p k || q k)
any_or n p q = both_same _ _ there back
  where
    there : (any n p || any n q) ≡ true → any n (λ k. p k || q k) ≡ true
    there h =
        ⊎_elim (λ e. let k = any_some n p e in any_from n k.0 (λ k. p k || q k) k.1 (or_left (p k.0) (q k.0) k.2))
        (λ e. let k = any_some n q e in any_from n k.0 (λ k. p k || q k) k.1 (or_right (p k.0) (q k.0) k.2))
        (or_cases (any n p) (any n q) h)

    back : any n (λ k. p k || q k) ≡ true → (any n p || any n q) ≡ true
    back h =
        let k = any_some n (λ k. p k || q k) h in
        ⊎_elim (λ e. or_left (any n p) (any n q) (any_from n k.0 p k.1 e)) (λ e. or_right (any n p) (any n q) (any_from n k.0 q k.1 e))
        (or_cases (p k.0) (q k.0) k.2)

-- nothing is cut off where all is below n
within_all : (n : ℕ) (s : Set) → ((a : ℕ) → s a ≡ true → a < n) → within n s ≡ s
unfolding within
within_all n s small = grind (arith, nat_tests)

and_first : (s w r : Bool) → (s && (w && r)) ≡ (w && (s && r))
and_first true w r = refl
and_first false true r = refl
and_first false false r = refl

and_last : (t w r : Bool) → (t && (w && r)) ≡ (w && (r && t))
and_last t w r = and_comm t (w && r) ∙ and_assoc w r t

-- ---- one row; the word p has the periods

module _ (x : Scene) (l : ℕ) where
  module _ (po_in : Within x.count x.po) (on_in : Within x.count (from_on x)) (n p row : ℕ) (s t : Set) (is_count : n ≡ x.count) (is_period : bit p ≡ x.period) where
    before_in : (a : ℕ) → before_unlock x l a ≡ true → a < x.count
    unfolding before_unlock
    before_in a h = grind (arith, nat_tests, any_some)

    pub section_is : s ≡ before_unlock x l → t ≡ image (from_on x) (bit (bit_and p row)) → product (within n s) (within n t) ≡ section_row x l (bit row)
    unfolding product image section_row section_first
    section_is e f =
        rw (is_count, e, f)
        (ap₂ product (within_all _ _ before_in) (within_all _ _ (λ b h. let k = image_some (from_on x) (bit (bit_and p row)) b h in (on_in k.0 b k.3).1))
        ∙ fun_ext λ a. fun_ext λ b. any_and 64 (before_unlock x l a) (λ k. bit (bit_and p row) k && from_on x k b)
        ∙ any_same 64 _ _ (λ k m. and_first (before_unlock x l a) _ (from_on x k b) ∙ ap (λ (w : Bool). w && (before_unlock x l a && from_on x k b)) (word k)))
      where
        word : (k : ℕ) → bit (bit_and p row) k ≡ (x.period k && bit row k)
        word k = bit-bit_and p row k ∙ ap (λ (u : Set). u k && bit row k) is_period

    pub period_is : row < 2 ^ 64 → s ≡ image (inverse x.po) (bit (bit_and p ((2 ^ 64 - 1) - row))) → t ≡ from_on x l
        → product (within n s) (within n t) ≡ period_row x l (bit row)
    unfolding product image inverse period_row period_first
    period_is fits e f =
        rw (is_count, e, f)
        (ap₂ product (within_all _ _ (λ a h. let k = image_some (inverse x.po) (bit (bit_and p ((2 ^ 64 - 1) - row))) a h in (po_in a k.0 k.3).0)) (within_all _ _ (λ b h. (on_in l b h).1))
        ∙ fun_ext λ a. fun_ext λ b. and_comm _ (from_on x l b) ∙ any_and 64 (from_on x l b) (λ k. bit (bit_and p ((2 ^ 64 - 1) - row)) k && x.po a k)
        ∙ any_same 64 _ _ (λ k m. and_last (from_on x l b) _ (x.po a k) ∙ ap (λ (w : Bool). w && (x.po a k && from_on x l b)) (word k m)))
      where
        word : (k : ℕ) → k < 64 → bit (bit_and p ((2 ^ 64 - 1) - row)) k ≡ (x.period k && not (bit row k))
        word k m = bit-bit_and p ((2 ^ 64 - 1) - row) k ∙ ap₂ ◌&&◌ (ap (λ (u : Set). u k) is_period) (bit_not 64 row k fits m)

  -- of each period one or the other, where l is a lock
  row_is : (row : Set) → any 64 (x.crit l) ≡ true → union (section_row x l row) (period_row x l row) ≡ lock_pairs x l row
  unfolding union section_row period_row lock_pairs pair
  row_is row lock =
      fun_ext λ a. fun_ext λ b. any_or 64 _ _
      ∙ any_same 64 _ _ (λ s m. chosen (x.period s) (row s) (section_first x l s) (period_first x l s) a b
      ∙ ap (λ (t : Bool). (t && x.period s) && cond (row s) (section_first x l s) (period_first x l s) a b) (sym lock))
    where
      chosen : (p r : Bool) (f g : Rel) (a b : ℕ) → (((p && r) && f a b) || ((p && not r) && g a b)) ≡ (p && cond r f g a b)
      chosen true true f g a b = or-false (f a b)
      chosen true false f g a b = refl
      chosen false r f g a b = refl

  -- and none where it is not
  row_none : (row : Set) → any 64 (x.crit l) ≡ false → (a b : ℕ) → lock_pairs x l row a b ≡ false
  unfolding lock_pairs pair
  row_none row none a b = grind (arith, nat_tests, false_from_ne_true, any_some, any_same)

-- ---- the rows one after another

module _ (x : Scene) (F : Table) where
  pub pairs_none : empty ≡ pairs_below x F 0
  unfolding empty pairs_below any
  pairs_none = refl

  below_next : (l : ℕ) (a b : ℕ) → pairs_below x F (l + 1) a b ≡ (lock_pairs x l (F l) a b || pairs_below x F l a b)
  unfolding pairs_below any
  below_next l a b = rw (add-one l) refl

  -- a lock with its row, and a lock of no section
  pub pairs_more : (l : ℕ) (row : Set) (all new more : Rel) → any 64 (x.crit l) ≡ true → row ≡ F l → all ≡ pairs_below x F l → new ≡ union (section_row x l row) (period_row x l row)
      → more ≡ union all new → more ≡ pairs_below x F (l + 1)
  unfolding union
  pairs_more l row all new more lock r e f g = grind (arith, nat_tests, row_is, below_next)

  pub pairs_same : (l : ℕ) (all : Rel) → any 64 (x.crit l) ≡ false → all ≡ pairs_below x F l → all ≡ pairs_below x F (l + 1)
  pairs_same l all none e = grind (arith, nat_tests, below_next, row_none)

  pub pairs_all : (l : ℕ) (all : Rel) → l ≡ 64 → all ≡ pairs_below x F l → all ≡ pairs x F
  unfolding pairs entry pairs_below lock_pairs
  pairs_all l all h e = e ∙ ap (pairs_below x F) h
