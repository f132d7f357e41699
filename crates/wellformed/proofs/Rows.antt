-- Searches in a row by its lowest number.
use Rattle.std.proofs.Common.{◌≡◌, ℕ, zero, suc, ◌+◌, Bool, true, false, cond, ◌||◌, ltb, [], ◌∷◌, ◌++◌, Some, None, Option, MatchOption, sym, refl, ap, ◌∙◌, subst, ap₂, ⊎_elim, add-one, add-zero, zero-add, arith}
use Rattle.std.proofs.lemmas.Bool.{lt-ltb, le-ltb, cases_lt}
use lib.Bits.{bit_or}
use Rattle.std.specs.List.{range_with_len, count_by}
use Rattle.std.proofs.lemmas.List.Sums.{sum_by_push}
use Rattle.rows.specs.Row.{Set, bit, any, count, tick, Lowest}
use Rattle.rows.proofs.Bits.{bit-bit_or}
use Rattle.rows.proofs.Any.{any_from, any_clear}

or_comm : (x y : Bool) → (x || y) ≡ (y || x)
or_comm true true = refl
or_comm true false = refl
or_comm false true = refl
or_comm false false = refl

below_lowest : (s : Set) (c b : ℕ) → Lowest s c → ltb c b ≡ any b s
below_lowest s c b low =
    ⊎_elim (λ h. lt-ltb c b h ∙ sym (any_from b c s h low.member))
    (λ h. le-ltb c b h ∙ sym (any_clear s b (λ i l. low.first i (omega arith))))
    (cases_lt c b)

-- the lowest number in a row tells whether one below b is in it
pub below_found : {P : ℕ → Type 0} (s : Set) (b : ℕ) (lowest : Option ℕ) (r : Bool) → MatchOption lowest ((x : ℕ) → s x ≡ false) (λ c. Lowest s c) → MatchOption lowest (r ≡ false) P
    → ((c : ℕ) → P c → r ≡ ltb c b) → r ≡ any b s
below_found s b None r none is test = is ∙ sym (any_clear s b (λ i l. none i))
below_found s b (Some c) r low is test = test c is ∙ below_lowest s c b low

-- rows gathered one after another: one row more
pub gathered_more : (t w e a : ℕ) (s : Set) → bit t e ≡ any a s → bit w e ≡ s a → bit (bit_or t w) e ≡ any (a + 1) s
unfolding any
gathered_more t w e a s before here = rw add-one (bit-bit_or t w e ∙ ap₂ ◌||◌ before here ∙ or_comm (any a s) (s a))

-- and all of them
pub gathered_all : (t e i n : ℕ) (s : Set) → i ≡ n → bit t e ≡ any i s → bit t e ≡ any n s
gathered_all t e i n s p h = subst (λ (k : ℕ). bit t e ≡ any k s) p h

-- ---- counting over a range

-- the last number of a range
range_end : (a n : ℕ) → range_with_len a (suc n) ≡ range_with_len a n ++ (a + n) ∷ []
range_end a zero = ap (λ (k : ℕ). k ∷ []) (sym (add-zero a))
range_end a (suc n) =
    let e : (a + 1) + n ≡ a + suc n = omega arith in
    ap (λ l. a ∷ l) (range_end (a + 1) n ∙ ap (λ (k : ℕ). range_with_len (a + 1) n ++ k ∷ []) e)

-- what a count over the first n numbers answers
pub count_range : (n : ℕ) (s : Set) → count_by s (range_with_len 0 n) ≡ count n s
unfolding count
count_range zero s = refl
count_range (suc n) s =
    ap (count_by s) (range_end 0 n) ∙ sum_by_push (λ k. cond (s k) 1 0) (range_with_len 0 n) (0 + n)
    ∙ ap₂ (λ u (k : ℕ). u + cond (s k) 1 0) (count_range n s) (zero-add n) ∙ ticked (s n)
  where
    ticked : (t : Bool) → count n s + cond t 1 0 ≡ tick t + count n s
    ticked true = omega arith
    ticked false = omega arith
