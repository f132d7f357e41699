-- The laws of one bit of a word under `|`, `&`, `!` and `1 << b`.
use Rattle.std.proofs.Common.{◌≡◌, ℕ, ◌+◌, ◌-◌, ◌*◌, ◌%◌, ◌^◌, ◌<◌, ◌≤◌, min, max, Bool, true, false, not, ◌&&◌, ◌||◌, eqb, ltb, w64, sym, refl, ap, ◌∙◌, ⊎_elim, lt_of_lt_of_le, mod-eq_of_lt, arith, pow_mono}
use mathlib.Core.Path.{fun_ext}
use lib.Bits.{bit_and, bit_or, bit_xor, and_mask, xor_add_and}
use Rattle.std.proofs.lemmas.Nat.Bits.{bit_at_or, bit_at_and, bit_at_xor, bit_at-lt, bit_at-zero, bit_at_above, bit_at_ones, bit_at_set_same, bit_at_set_other, bit_at_clear_same, bit_at_clear_other}
use Rattle.std.proofs.lemmas.Bool.{cases_lt, cases_eq, both_ways}
use Rattle.std.proofs.lemmas.Bool.Decides.{nat_tests}
use Rattle.std.specs.Int.{bit_at}
use Rattle.rows.specs.Row.{bit, adding, dropping}

pub and_true : (s : Bool) {t : Bool} → t ≡ true → (s && t) ≡ s
and_true true e = e
and_true false e = refl

-- ---- a bit, by its digit

pub bit_digit : (w b d : ℕ) → bit_at w b ≡ d → bit w b ≡ eqb d 1
unfolding bit
bit_digit w b d e = ap (λ (n : ℕ). eqb n 1) e

module _ (x y : ℕ) (h : x < 2) (k : y < 2) where
  digit_or : eqb (max x y) 1 ≡ (eqb x 1 || eqb y 1)
  digit_or = grind (arith, nat_tests)

  digit_and : eqb (min x y) 1 ≡ (eqb x 1 && eqb y 1)
  digit_and = grind (arith, nat_tests)

digit_flip : (x : ℕ) → x < 2 → eqb ((x + 1) % 2) 1 ≡ not (eqb x 1)
digit_flip x h = grind (arith, nat_tests)

pub bit-bit_or : (v w b : ℕ) → bit (bit_or v w) b ≡ (bit v b || bit w b)
unfolding bit
bit-bit_or v w b = bit_digit _ b _ (bit_at_or v w b) ∙ digit_or _ _ (bit_at-lt v b) (bit_at-lt w b)

pub bit-bit_and : (v w b : ℕ) → bit (bit_and v w) b ≡ (bit v b && bit w b)
unfolding bit
bit-bit_and v w b = bit_digit _ b _ (bit_at_and v w b) ∙ digit_and _ _ (bit_at-lt v b) (bit_at-lt w b)

-- no bit past the word
pub bit_past : (w b : ℕ) → w < 2 ^ b → bit w b ≡ false
bit_past w b h = bit_digit w b 0 (bit_at_above w b b h (omega arith))

pub bit_zero : (b : ℕ) → bit 0 b ≡ false
bit_zero b = bit_digit 0 b 0 (bit_at-zero b)

-- all k bits of the word of ones are set
pub bit_ones : (k b : ℕ) → b < k → bit (2 ^ k - 1) b ≡ true
bit_ones k b h = bit_digit _ b 1 (bit_at_ones k b h)

-- the complement of a word of k bits
pub bit_not : (k w b : ℕ) → w < 2 ^ k → b < k → bit ((2 ^ k - 1) - w) b ≡ not (bit w b)
unfolding bit
bit_not k w b l h =
    let m : bit_and w (2 ^ k - 1) ≡ w = and_mask w k ∙ mod-eq_of_lt l in
    let flip : bit_xor w (2 ^ k - 1) ≡ (2 ^ k - 1) - w = omega (arith, xor_add_and w (2 ^ k - 1), m) in
    bit_digit _ b _ (ap (λ (n : ℕ). bit_at n b) (sym flip) ∙ bit_at_xor w (2 ^ k - 1) b ∙ ap (λ (n : ℕ). (bit_at w b + n) % 2) (bit_at_ones k b h))
    ∙ digit_flip _ (bit_at-lt w b)

-- ---- a row with one number more, and with one less

-- nothing past the word is in its row
pub bit_outside : (row b : ℕ) → row < 2 ^ 64 → 64 ≤ b → bit row b ≡ false
bit_outside row b l h = bit_past row b (lt_of_lt_of_le l (pow_mono h))

-- so what is in it has room there
pub bit_inside : (row b : ℕ) → row < 2 ^ 64 → bit row b ≡ true → b < 64
bit_inside row b l h = ⊎_elim (λ k. k) (λ k. absurd (both_ways (bit row b) (bit_outside row b l k) h)) (cases_lt b 64)

pub with_bit : (row b : ℕ) → b < 64 → bit (bit_or row ((1 * 2 ^ b) % 2 ^ 64)) ≡ adding b (bit row)
unfolding bit adding
with_bit row b h = fun_ext λ x. ⊎_elim (here x) (there x) (cases_eq x b)
  where
    here : (x : ℕ) → x ≡ b → eqb (bit_at (bit_or row ((1 * 2 ^ b) % 2 ^ 64)) x) 1 ≡ (eqb (bit_at row x) 1 || (eqb x b && ltb b 64))
    here x e = rw (e, bit_at_set_same w64 row b h) (grind (arith, nat_tests))

    there : (x : ℕ) → (x ≡ b → ⊥) → eqb (bit_at (bit_or row ((1 * 2 ^ b) % 2 ^ 64)) x) 1 ≡ (eqb (bit_at row x) 1 || (eqb x b && ltb b 64))
    there x n = rw (bit_at_set_other w64 row b h x n) (grind (arith, nat_tests))

pub without_bit : (row b : ℕ) → row < 2 ^ 64 → b < 64 → bit (bit_and row ((2 ^ 64 - 1) - (1 * 2 ^ b) % 2 ^ 64)) ≡ dropping b (bit row)
unfolding bit dropping
without_bit row b l h = fun_ext λ x. ⊎_elim (here x) (λ n. ⊎_elim (there x n) (past x) (cases_lt x 64)) (cases_eq x b)
  where
    here : (x : ℕ) → x ≡ b → eqb (bit_at (bit_and row ((2 ^ 64 - 1) - (1 * 2 ^ b) % 2 ^ 64)) x) 1 ≡ (eqb (bit_at row x) 1 && not (eqb x b))
    here x e = rw (e, bit_at_clear_same w64 row b h) (grind (arith, nat_tests))

    there : (x : ℕ) → (x ≡ b → ⊥) → x < 64 → eqb (bit_at (bit_and row ((2 ^ 64 - 1) - (1 * 2 ^ b) % 2 ^ 64)) x) 1 ≡ (eqb (bit_at row x) 1 && not (eqb x b))
    there x n k = rw (bit_at_clear_other w64 row b h x k n) (grind (arith, nat_tests))

    past : (x : ℕ) → 64 ≤ x → eqb (bit_at (bit_and row ((2 ^ 64 - 1) - (1 * 2 ^ b) % 2 ^ 64)) x) 1 ≡ (eqb (bit_at row x) 1 && not (eqb x b))
    past x k = bit-bit_and row _ x ∙ rw (bit_outside row x l k) refl

-- a number past the word is neither added nor taken out
pub with_none : (row b : ℕ) → 64 ≤ b → bit row ≡ adding b (bit row)
unfolding adding
with_none row b h = fun_ext λ x. grind (arith, nat_tests)

pub without_none : (row b : ℕ) → row < 2 ^ 64 → 64 ≤ b → bit row ≡ dropping b (bit row)
unfolding dropping
without_none row b l h = fun_ext λ x. ⊎_elim (λ e. rw (bit_outside row x l (omega arith)) refl) (λ n. grind (arith, nat_tests)) (cases_eq x b)
