-- A word digit by digit: no bit set, the lowest bit, how many bits are set.
use Rattle.std.proofs.Common.{◌≡◌, ℕ, zero, suc, ◌+◌, ◌-◌, ◌*◌, ◌/◌, ◌%◌, ◌^◌, ◌<◌, ◌≤◌, Bool, true, false, not, ◌&&◌, eqb, ltb, w64, sym, refl, ap, ◌∙◌, subst, ap₂, ⊎_elim, lt_of_lt_of_le, mod-lt, add-one, arith, lit<, pow_mono}
use mathlib.Core.Path.{fun_ext}
use lib.Count.{count_trailing_zeros, ones, ones_step}
use lib.Arith.{lt-one}
use Rattle.std.proofs.lemmas.Nat.{shr_below, pow_pos, one_shl}
use Rattle.std.proofs.lemmas.Nat.Bits.{same_from_bits_below, bit_at-lt, bit_at-zero, bit_at-trailing_zeros, bit_at_ones_above, bit_at_lowest, bit_at-suc}
use Rattle.std.proofs.lemmas.Bool.{eqb-false, eq-eqb, ne_eqb, lt-ltb, le-ltb, cases_lt, cases_eq, and_right, and_parts, and_from, not-true, not_from_false}
use Rattle.rows.specs.Row.{Set, bit, dropping, below, count, tick, Lowest}
use Rattle.rows.proofs.Bits.{bit_digit, bit_past, bit_ones}

-- a word with no bit set is 0
pub no_bits : (k w : ℕ) → w < 2 ^ k → ((x : ℕ) → x < k → bit w x ≡ false) → w ≡ 0
unfolding bit
no_bits k w h f = same_from_bits_below k w 0 h (pow_pos k) (λ x l. omega (arith, eqb-false _ 1 (f x l), bit_at-lt w x, bit_at-zero x))

-- the lowest bit of another is the one above its trailing zeros
pub lowest_is : (w : ℕ) → w < 2 ^ 64 → (w ≡ 0 → ⊥) → Lowest (bit w) (count_trailing_zeros 64 w)
lowest_is w h some =
    let t = bit_at-trailing_zeros w64 w (omega arith) h in
    record { room = t.0; member = bit_digit w _ 1 t.1; first = λ x l. bit_digit w x 0 (t.2 x l) }

-- ---- the numbers below n

pub below_bits : (n : ℕ) → n < 64 → bit ((1 * 2 ^ n) % 2 ^ 64 - 1) ≡ below n
unfolding below
below_bits n h = fun_ext λ x. ap (λ (w : ℕ). bit (w - 1) x) (one_shl n 64 h) ∙ ⊎_elim (inside x) (outside x) (cases_lt x n)
  where
    inside : (x : ℕ) → x < n → bit (2 ^ n - 1) x ≡ (ltb x n && ltb x 64)
    inside x l = bit_ones n x l ∙ sym (rw (lt-ltb x n l) (lt-ltb x 64 (omega arith)))

    outside : (x : ℕ) → n ≤ x → bit (2 ^ n - 1) x ≡ (ltb x n && ltb x 64)
    outside x l = bit_digit _ x 0 (bit_at_ones_above n x l) ∙ sym (rw (le-ltb x n l) refl)

-- all 64
pub below_all : (n : ℕ) → 64 ≤ n → bit (2 ^ 64 - 1) ≡ below n
unfolding below
below_all n h = fun_ext λ x. ⊎_elim (inside x) (outside x) (cases_lt x 64)
  where
    inside : (x : ℕ) → x < 64 → bit (2 ^ 64 - 1) x ≡ (ltb x n && ltb x 64)
    inside x l = bit_ones 64 x l ∙ sym (rw (lt-ltb x n (omega arith)) (lt-ltb x 64 l))

    outside : (x : ℕ) → 64 ≤ x → bit (2 ^ 64 - 1) x ≡ (ltb x n && ltb x 64)
    outside x l = bit_past (2 ^ 64 - 1) x (lt_of_lt_of_le (lit< tt) (pow_mono l)) ∙ sym (rw (le-ltb x 64 l) (and_right (ltb x n) false refl))

-- ---- how many

pub count_first : (k : ℕ) (s : ℕ → Bool) → count (suc k) s ≡ tick (s 0) + count k (λ x. s (suc x))
unfolding count
count_first zero s = refl
count_first (suc k) s = omega (arith, count_first k s)

tick_digit : (x : ℕ) → x < 2 → tick (eqb x 1) ≡ x
tick_digit zero h = refl
tick_digit (suc zero) h = refl
tick_digit (suc (suc x)) h = absurd (omega arith)

half_below : (k w : ℕ) → w < 2 ^ suc k → w / 2 < 2 ^ k
half_below k w h = shr_below w k 1 (subst (λ (x : ℕ). w < 2 ^ x) (sym (add-one k)) h)

half : (w x : ℕ) → bit w (suc x) ≡ bit (w / 2) x
unfolding bit
half w x = ap (λ (n : ℕ). eqb n 1) (bit_at-suc w x)

-- the set digits of a word of k digits are the numbers in its row
pub ones_count : (k w : ℕ) → w < 2 ^ k → ones w ≡ count k (bit w)
unfolding count ones
ones_count zero w h = ap ones (lt-one h)
ones_count (suc k) w h =
    ones_step w ∙ ap₂ ◌+◌ (sym (ap tick (bit_digit w 0 _ (bit_at_lowest w)) ∙ tick_digit (w % 2) (mod-lt w (lit< tt))))
    (ones_count k (w / 2) (half_below k w h) ∙ ap (count k) (fun_ext λ x. sym (half w x)))
    ∙ sym (count_first k (bit w))

tick_mono : (x y : Bool) → (x ≡ true → y ≡ true) → tick x ≤ tick y
tick_mono true y f = rw (f refl) (omega arith)
tick_mono false y f = omega arith

-- a set within another has no more numbers
pub count_within : (n : ℕ) (s t : ℕ → Bool) → ((x : ℕ) → x < n → s x ≡ true → t x ≡ true) → count n s ≤ count n t
unfolding count
count_within zero s t f = omega arith
count_within (suc n) s t f = omega (arith, tick_mono (s n) (t n) (f n (omega arith)), count_within n s t (λ x l. f x (omega arith)))

-- and fewer, if it lacks one
pub count_lacks : (n c : ℕ) (s t : ℕ → Bool) → ((x : ℕ) → x < n → s x ≡ true → t x ≡ true) → c < n → s c ≡ false → t c ≡ true → count n s < count n t
unfolding count
count_lacks zero c s t f h e g = absurd (omega arith)
count_lacks (suc n) c s t f h e g = ⊎_elim top (lower (λ l. count_lacks n c s t (λ x m. f x (omega arith)) l e g)) (cases_eq c n)
  where
    top : c ≡ n → tick (s n) + count n s < tick (t n) + count n t
    top z =
        let sn : s n ≡ false = subst (λ (x : ℕ). s x ≡ false) z e in
        let tn : t n ≡ true = subst (λ (x : ℕ). t x ≡ true) z g in
        rw (sn, tn) (omega (arith, count_within n s t (λ x l. f x (omega arith))))

    lower : (c < n → count n s < count n t) → (c ≡ n → ⊥) → tick (s n) + count n s < tick (t n) + count n t
    lower rest z = let fewer : count n s < count n t = rest (omega arith) in omega (arith, tick_mono (s n) (t n) (f n (omega arith)))

-- a set of numbers below n has at most n
pub count_le : (n : ℕ) (s : ℕ → Bool) → count n s ≤ n
unfolding count
count_le zero s = omega arith
count_le (suc n) s = go (s n) (count_le n s)
  where
    go : (x : Bool) → count n s ≤ n → tick x + count n s ≤ suc n
    go true l = omega arith
    go false l = omega arith

-- ---- a set and one of its numbers taken out

module _ (c : ℕ) (s : Set) where
  pub dropped_parts : (x : ℕ) → dropping c s x ≡ true → (x ≡ c → ⊥) × (s x ≡ true)
  unfolding dropping
  dropped_parts x h = let p = and_parts (s x) (not (eqb x c)) h in (eqb-false x c (not-true (eqb x c) p.1), p.0)

  pub dropped_from : (x : ℕ) → (x ≡ c → ⊥) → s x ≡ true → dropping c s x ≡ true
  unfolding dropping
  dropped_from x n h = and_from (s x) (not (eqb x c)) h (not_from_false (eqb x c) (ne_eqb x c n))

  pub dropped_out : dropping c s c ≡ false
  unfolding dropping
  dropped_out = rw (eq-eqb c c refl) (and_right (s c) false refl)

  -- there is one less
  pub fewer : (t : Set) → t ≡ dropping c s → Lowest s c → count 64 t < count 64 s
  fewer t e low =
      rw e (count_lacks 64 c (dropping c s) s (λ x l h. (dropped_parts x h).1) low.room dropped_out low.member)
