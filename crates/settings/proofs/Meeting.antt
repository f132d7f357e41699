-- Words that have an event in common, and words that lie in others.
use Rattle.std.proofs.lemmas.Bool.Decides.{nat_tests}
use Rattle.std.proofs.Common.{◌≡◌, ℕ, ◌-◌, ◌^◌, ◌<◌, ◌≤◌, Bool, true, false, not, ◌&&◌, eqb, ltb, Decides, MatchBool, length, sym, refl, ap, ◌∙◌, ap₂, ⊎_elim, zero-add, arith}
use lib.Bits.{bit_and}
use Rattle.std.specs.List.{range_with_len, AllWithin, HoldsAt}
use Rattle.std.proofs.lemmas.List.FromFn.{length-range_with_len, get_or-range_with_len}
use Rattle.std.proofs.lemmas.Bool.{and_parts, and_from, both_ways, cases_Bool, eq-eqb, ne_eqb, not_from_false, not-true, ltb-true, lt-ltb, false≢true, false_from_ne_true}
use Rattle.rows.specs.Row.{Set, bit, below}
use Rattle.settings.specs.Parts.{Inside, covers}
use Rattle.rows.proofs.Bits.{bit-bit_and, bit_not, bit_zero, bit_inside}
use Rattle.rows.proofs.Words.{no_bits}
use Rattle.relations.specs.Algebra.{Rel, any}
use Rattle.rows.proofs.Any.{any_some, any_from}
use Rattle.relations.proofs.Tables.{both_same}

-- the test by the word of both
pub meets_any : (v w : ℕ) → v < 2 ^ 64 → bit_and v w < 2 ^ 64 → not (eqb (bit_and v w) 0) ≡ any 64 (λ c. bit v c && bit w c)
meets_any v w fits small = both_same (not (eqb (bit_and v w) 0)) (any 64 (λ c. bit v c && bit w c)) there back
  where
    none : any 64 (λ c. bit v c && bit w c) ≡ false → (c : ℕ) → c < 64 → bit (bit_and v w) c ≡ false
    none e c l = bit-bit_and v w c ∙ false_from_ne_true (bit v c && bit w c) (λ h. both_ways _ e (any_from 64 c (λ c. bit v c && bit w c) l h))

    there : not (eqb (bit_and v w) 0) ≡ true → any 64 (λ c. bit v c && bit w c) ≡ true
    there h =
        ⊎_elim (λ e. e) (λ e. absurd (both_ways _ (not-true _ h) (eq-eqb (bit_and v w) 0 (no_bits 64 (bit_and v w) small (none e)))))
        (cases_Bool (any 64 (λ c. bit v c && bit w c)))

    back : any 64 (λ c. bit v c && bit w c) ≡ true → not (eqb (bit_and v w) 0) ≡ true
    back h =
        let e = any_some 64 (λ c. bit v c && bit w c) h in
        not_from_false (eqb (bit_and v w) 0) (ne_eqb (bit_and v w) 0
        (λ z. both_ways _ (ap (λ (n : ℕ). bit n e.0) z ∙ bit_zero e.0) (bit-bit_and v w e.0 ∙ e.2)))

-- one word lies in another when it does not meet the rest
pub meets_lies : (v w : ℕ) → v < 2 ^ 64 → w < 2 ^ 64 → any 64 (λ c. bit v c && bit ((2 ^ 64 - 1) - w) c) ≡ false → (b : ℕ) → bit v b ≡ true → bit w b ≡ true
meets_lies v w fv fw none b h =
    let l = bit_inside v b fv h in
    ⊎_elim (λ e. e) (λ e. absurd (both_ways _ none (any_from 64 b (λ c. bit v c && bit ((2 ^ 64 - 1) - w) c) l (and_from _ _ h (bit_not 64 w b fw l ∙ not_from_false (bit w b) e)))))
    (cases_Bool (bit w b))

pub lies_meets : (v w : ℕ) → w < 2 ^ 64 → ((b : ℕ) → bit v b ≡ true → bit w b ≡ true) → any 64 (λ c. bit v c && bit ((2 ^ 64 - 1) - w) c) ≡ false
lies_meets v w fw lies = false_from_ne_true _ (λ h.
    let e = any_some 64 (λ c. bit v c && bit ((2 ^ 64 - 1) - w) c) h in
    let p = and_parts (bit v e.0) (bit ((2 ^ 64 - 1) - w) e.0) e.2 in
    both_ways _ (not-true (bit w e.0) (sym (bit_not 64 w e.0 fw e.1) ∙ p.1)) (lies e.0 p.0))

-- the same for the sets of the words
pub none_lies : (v w : ℕ) (f g : Set) (t : Bool) → v < 2 ^ 64 → w < 2 ^ 64 → bit v ≡ f → bit w ≡ g → t ≡ any 64 (λ c. bit v c && bit ((2 ^ 64 - 1) - w) c) → t ≡ false
    → (b : ℕ) → f b ≡ true → g b ≡ true
none_lies v w f g t fv fw ev ew e h b k = sym (ap (λ (s : Set). s b) ew) ∙ meets_lies v w fv fw (sym e ∙ h) b (ap (λ (s : Set). s b) ev ∙ k)

pub lies_none : (v w : ℕ) (f g : Set) (t : Bool) → w < 2 ^ 64 → bit v ≡ f → bit w ≡ g → t ≡ any 64 (λ c. bit v c && bit ((2 ^ 64 - 1) - w) c)
    → ((b : ℕ) → f b ≡ true → g b ≡ true) → t ≡ false
lies_none v w f g t fw ev ew e lies = e ∙ lies_meets v w fw (λ b h. ap (λ (s : Set). s b) ew ∙ lies b (sym (ap (λ (s : Set). s b) ev) ∙ h))

-- ---- one relation in another, row by row

-- tests that agree below n
pub any_same : (n : ℕ) (p q : Set) → ((k : ℕ) → k < n → p k ≡ q k) → any n p ≡ any n q
any_same n p q same = both_same (any n p) (any n q)
    (λ h. let e = any_some n p h in any_from n e.0 q e.1 (sym (same e.0 e.1) ∙ e.2))
    (λ h. let e = any_some n q h in any_from n e.0 p e.1 (same e.0 e.1 ∙ e.2))

pub covers_row : (v w a : ℕ) (r s : Rel) (t : Bool) → w < 2 ^ 64 → bit v ≡ s a → bit w ≡ r a → t ≡ any 64 (λ c. bit v c && bit ((2 ^ 64 - 1) - w) c) → not t ≡ covers r s a
unfolding covers
covers_row v w a r s t fw ev ew e =
    ap not (e ∙ any_same 64 _ _ (λ k l. ap₂ ◌&&◌ (ap (λ (u : Set). u k) ev) (bit_not 64 w k fw l ∙ ap (λ (u : Set). not (u k)) ew)))

pub covered : (r s : Rel) (a b : ℕ) → covers r s a ≡ true → b < 64 → s a b ≡ true → r a b ≡ true
unfolding covers
covered r s a b h l e =
    ⊎_elim (λ z. z) (λ z. absurd (both_ways _ (not-true _ h) (any_from 64 b (λ b. s a b && not (r a b)) l (and_from _ _ e (not_from_false _ z))))) (cases_Bool (r a b))

pub covers_from : (r s : Rel) (a : ℕ) → ((b : ℕ) → s a b ≡ true → r a b ≡ true) → covers r s a ≡ true
unfolding covers
covers_from r s a all = grind (arith, nat_tests, false_from_ne_true, any_some)

-- what `all` answers over the first n numbers
pub all_decides : (r : Bool) (n : ℕ) (t : ℕ → Bool)
    → MatchBool r (AllWithin (λ a. t a ≡ true) (range_with_len 0 n) 0 (length (range_with_len 0 n)))
    ((k : ℕ) × (k < length (range_with_len 0 n)) × HoldsAt (λ a. t a ≡ false) (range_with_len 0 n) k)
    → Decides r ((a : ℕ) → a < n → t a ≡ true)
all_decides true n t h = (
  λ _ a l. sym (ap t (get_or-range_with_len 0 n a 0 l ∙ zero-add a)) ∙ h a 0 (omega arith) (omega (arith, length-range_with_len 0 n)),
  λ _. refl,
)
all_decides false n t h =
    let l : h.0 < n = omega (arith, h.1, length-range_with_len 0 n) in
    (λ e. absurd (false≢true e), λ all. absurd (both_ways _ (sym (ap t (get_or-range_with_len 0 n h.0 0 l ∙ zero-add h.0)) ∙ h.2 0) (all h.0 l)))

-- every period is among the first n events when none meets the others
pub inside_when : (n p w : ℕ) (t : Bool) → n ≤ 64 → p < 2 ^ 64 → w < 2 ^ 64 → bit w ≡ below n → t ≡ any 64 (λ c. bit p c && bit ((2 ^ 64 - 1) - w) c)
    → Decides (not t) (Inside n p)
unfolding below
inside_when n p w t few fp fw e m = (
  λ h s k. ltb-true s n (and_parts (ltb s n) (ltb s 64) (none_lies p w (bit p) (below n) t fp fw refl e m (not-true t h) s k)).0,
  λ ins. not_from_false t (lies_none p w (bit p) (below n) t fw refl e m
      (λ s k. let l = ins s k in and_from (ltb s n) (ltb s 64) (lt-ltb s n l) (lt-ltb s 64 (omega arith)))),
)
