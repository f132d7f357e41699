-- Numbers of up to five digits and the fields that write them.
use Rattle.std.proofs.Common.{true≢false, ◌≡◌, ℕ, ◌+◌, ◌*◌, ◌^◌, ◌<◌, ◌≤◌, Bool, true, false, not, ◌&&◌, eqb, ltb, List, [], ◌∷◌, length, get_or, drop, Some, None, decimal, sym, refl, ap, ◌∙◌, subst, ⊎_elim, pow-suc, add-one, arith, rules}
use Rattle.std.specs.Char.{is_ascii_digit}
use Rattle.std.specs.Str.{all_ascii_digits}
use Rattle.std.proofs.lemmas.Bool.{and_parts, eqb-true, cases_Bool, cases_eq}
use Rattle.std.proofs.lemmas.Bool.Decides.{nat_tests}
use Rattle.std.proofs.lemmas.List.{at_drop_more}
use Rattle.std.proofs.lemmas.Str.Parse.{IsNumeralModel, numerals_by_fold, tells_all_ascii_digits, digits_value_short}
use Rattle.std.proofs.lemmas.Fmt.{digits_decimal, digits_value-decimal, decimal-digits_value, length-decimal-le, decimal_nonempty, first_decimal, decimal_digit}
use Rattle.std.proofs.lemmas.Option.{cond_some}
use Rattle.caselines.specs.Fields.{reading, numeral, number_of}
use Rattle.caselines.proofs.Cutting.{absent}

-- reading is what digits write
own : IsNumeralModel (λ ds. all_ascii_digits ds ≡ true) (reading 0)
own = numerals_by_fold _ tells_all_ascii_digits reading (search rules)

-- what a field of one to five digits is
pub record Numeral (ds : List ℕ) : Type 0 where
  pub some : 1 ≤ length ds
  pub few : length ds ≤ 5
  pub plain : (length ds ≡ 1 → ⊥) → get_or ds 0 0 ≡ 48 → ⊥
  pub digits : all_ascii_digits ds ≡ true

numeral_parts : (ds : List ℕ) → numeral ds ≡ true → Numeral ds
numeral_parts ds e = record {
  some = grind (arith, nat_tests);
  few = grind (arith, nat_tests);
  plain = λ one zero. grind (arith, nat_tests);
  digits = grind (arith, nat_tests);
}

numeral_whole : (ds : List ℕ) → Numeral ds → numeral ds ≡ true
numeral_whole ds n = let plain = n.plain in grind (arith, nat_tests, cases_eq (length ds) 1)

-- a field that is no numeral, and one that is
pub no_number : (ds : List ℕ) → (Numeral ds → ⊥) → None ≡ number_of ds
unfolding number_of
no_number ds n = ⊎_elim (λ h. absurd (n (numeral_parts ds h))) (λ h. rw h refl) (cases_Bool (numeral ds))

pub is_number : (ds : List ℕ) → Numeral ds → number_of ds ≡ Some (reading 0 ds)
unfolding number_of
is_number ds n = rw (numeral_whole ds n) refl

-- the digits from a place on
pub digit_fails : (ds : List ℕ) (i : ℕ) → i < length ds → all_ascii_digits ds ≡ all_ascii_digits (drop i ds) → (is_ascii_digit (get_or ds i 0) ≡ true → ⊥) → all_ascii_digits ds ≡ true → ⊥
digit_fails ds i h e n a = n (and_parts (is_ascii_digit (get_or ds i 0)) (all_ascii_digits (drop (i + 1) ds)) (sym (at_drop_more all_ascii_digits ds i 0 h) ∙ sym e ∙ a)).0

-- ten times more for a digit more
pub room_more : (n d i : ℕ) → n < 10 ^ i → d ≤ 9 → 10 * n + d < 10 ^ (i + 1)
room_more n d i h k = rw (add-one i) (omega (arith, pow-suc 10 i))

-- a zero before other digits
pub leading : (ds : List ℕ) → (ltb 1 (length ds) && eqb (get_or ds 0 0) 48) ≡ true → (1 < length ds) × (get_or ds 0 0 ≡ 48)
leading ds e = (grind (arith, nat_tests), grind (arith, nat_tests))

pub not_leading : (ds : List ℕ) → 1 ≤ length ds → (ltb 1 (length ds) && eqb (get_or ds 0 0) 48) ≡ false → get_or ds 0 0 ≡ 48 → length ds ≡ 1
not_leading ds some e zero = grind (arith, nat_tests)

-- a number below 100000 is written by its decimal digits
pub number_decimal : (n : ℕ) → n < 100000 → number_of (decimal n) ≡ Some n
unfolding number_of
number_decimal n h = rw (numeral_whole (decimal n) parts, digits_value-decimal own n (omega arith)) refl
  where
    positive : (length (decimal n) ≡ 1 → ⊥) → 0 < n
    positive one = ⊎_elim (λ z. absurd (one (rw z (ap length (decimal_digit 0 (omega arith)))))) (λ z. omega arith) (cases_eq n 0)

    parts : Numeral (decimal n)
    parts = record {
      some = omega (arith, decimal_nonempty n (omega arith));
      few = length-decimal-le 5 n (omega arith) (omega arith) (omega arith);
      plain = λ one zero. omega (arith, first_decimal n (positive one) (omega arith));
      digits = digits_decimal own n (omega arith);
    }

-- and by nothing else
pub record Written (ds : List ℕ) (n : ℕ) : Type 0 where
  pub digits : ds ≡ decimal n
  pub small : n < 100000

pub number_written : (ds : List ℕ) (n : ℕ) → number_of ds ≡ Some n → Written ds n
unfolding number_of
number_written ds n e =
    let found = cond_some (numeral ds) (reading 0 ds) n e in
    let parts = numeral_parts ds found.0 in
    let small : reading 0 ds < 100000 = omega (arith, digits_value_short own ds 5 parts.digits parts.few) in
    rw (← found.1) (record {
      digits = sym (decimal-digits_value own ds parts.digits (omega (arith, parts.some))
          (λ zero. ⊎_elim (λ o. o) (λ o. absurd (parts.plain o zero)) (cases_eq (length ds) 1)) (omega arith));
      small = small;
    })

-- no other byte than a digit is in a number
pub absent_digits : (c : ℕ) (ds : List ℕ) → is_ascii_digit c ≡ false → all_ascii_digits ds ≡ true → absent c ds ≡ true
absent_digits c [] n a = refl
absent_digits c (x ∷ ds) n a = go (eqb x c) refl (absent_digits c ds n (and_parts (is_ascii_digit x) (all_ascii_digits ds) a).1)
  where
    go : (t : Bool) → eqb x c ≡ t → absent c ds ≡ true → (not t && absent c ds) ≡ true
    go true q later = let z : is_ascii_digit c ≡ true = subst (λ (k : ℕ). is_ascii_digit k ≡ true) (eqb-true x c q) (and_parts (is_ascii_digit x) (all_ascii_digits ds) a).0 in
        absurd (true≢false (sym z ∙ n))
    go false q later = later

pub absent_decimal : (c n : ℕ) → is_ascii_digit c ≡ false → n < 2 ^ 64 → absent c (decimal n) ≡ true
absent_decimal c n o h = absent_digits c (decimal n) o (digits_decimal own n h)
