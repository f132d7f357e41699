-- A word gathered event by event: those below i that pass a test.
use Rattle.std.proofs.lemmas.Bool.Decides.{nat_tests}
use Rattle.std.proofs.Common.{◌≡◌, ℕ, ◌+◌, ◌<◌, ◌≤◌, Bool, true, false, ◌&&◌, ◌||◌, eqb, ltb, sym, ap, ◌∙◌, ⊎_elim, arith}
use mathlib.Core.Path.{fun_ext}
use Rattle.std.proofs.lemmas.Bool.{and_parts, and_from, and_left, or_cases, or_left, or_right, eqb-true, eq-eqb, ltb-true, lt-ltb, le-ltb, cases_eq, both_ways}
use Rattle.rows.specs.Row.{Set, bit, adding}
use Rattle.rows.proofs.Bits.{bit_zero}
use Rattle.relations.specs.Algebra.{within}
use Rattle.relations.proofs.Tables.{both_same}
use Rattle.precedence.specs.Rows.{ArePassing}

-- of the events below i the set has those that passed, and of the others none
pub record Gathered (answers : ℕ → Bool → Type 0) (i : ℕ) (s : Set) : Type 0 where
  pub each : (e : ℕ) → e < i → answers e (s e)
  pub below : (e : ℕ) → s e ≡ true → e < i

pub gather_none : (answers : ℕ → Bool → Type 0) → Gathered answers 0 (bit 0)
gather_none answers = grind (arith, nat_tests, bit_zero)

module _ (answers : ℕ → Bool → Type 0) (i : ℕ) (s : Set) (g : Gathered answers i s) where
  pub gather_yes : (t : Set) → i < 64 → t ≡ adding i s → answers i true → Gathered answers (i + 1) t
  unfolding adding
  gather_yes t room f passed = grind (arith, nat_tests)

  pub gather_no : answers i false → Gathered answers (i + 1) s
  gather_no failed = grind (arith, nat_tests)

-- where each answer is that of a test
pub gathered : (answers : ℕ → Bool → Type 0) (s t : Set) → ArePassing answers s → ((e : ℕ) (b : Bool) → e < 64 → answers e b → b ≡ t e) → s ≡ within 64 t
unfolding within
gathered answers s t g same = grind (arith, nat_tests)

-- what a whole word has
pub gathered_at : (s t : Set) (k : ℕ) → k < 64 → s ≡ within 64 t → s k ≡ t k
unfolding within
gathered_at s t k l e = grind (arith, nat_tests)

pub gathered_far : (s t : Set) (k : ℕ) → 64 ≤ k → s ≡ within 64 t → s k ≡ false
unfolding within
gathered_far s t k l e = grind (arith, nat_tests)

-- ---- sets that are a test cut at i: before the first event, and one event on

pub within_none : (t : Set) → bit 0 ≡ within 0 t
unfolding within
within_none t = fun_ext λ b. bit_zero b ∙ sym (and_left (ltb b 0) (t b) (le-ltb b 0 (omega arith)))

pub within_yes : (i : ℕ) (s s' t : Set) → i < 64 → s ≡ within i t → s' ≡ adding i s → t i ≡ true → s' ≡ within (i + 1) t
unfolding within adding
within_yes i s s' t l e f h = f ∙ fun_ext λ b. both_same (s b || (eqb b i && ltb i 64)) (ltb b (i + 1) && t b) (there b) (back b)
  where
    there : (b : ℕ) → (s b || (eqb b i && ltb i 64)) ≡ true → (ltb b (i + 1) && t b) ≡ true
    there b k =
        ⊎_elim
        (λ o. let p = and_parts (ltb b i) (t b) (sym (ap (λ (u : Set). u b) e) ∙ o) in and_from (ltb b (i + 1)) (t b) (lt-ltb b (i + 1) (omega (arith, ltb-true b i p.0))) p.1)
        (λ o. let z = eqb-true b i (and_parts (eqb b i) (ltb i 64) o).0 in and_from (ltb b (i + 1)) (t b) (lt-ltb b (i + 1) (omega arith)) (ap t z ∙ h))
        (or_cases (s b) (eqb b i && ltb i 64) k)

    back : (b : ℕ) → (ltb b (i + 1) && t b) ≡ true → (s b || (eqb b i && ltb i 64)) ≡ true
    back b k =
        let p = and_parts (ltb b (i + 1)) (t b) k in
        let m = ltb-true b (i + 1) p.0 in
        ⊎_elim (λ z. or_right (s b) _ (and_from (eqb b i) (ltb i 64) (eq-eqb b i z) (lt-ltb i 64 l)))
        (λ z. or_left (s b) _ (ap (λ (u : Set). u b) e ∙ and_from (ltb b i) (t b) (lt-ltb b i (omega arith)) p.1)) (cases_eq b i)

pub within_no : (i : ℕ) (s t : Set) → s ≡ within i t → t i ≡ false → s ≡ within (i + 1) t
unfolding within
within_no i s t e h = e ∙ fun_ext λ b. both_same (ltb b i && t b) (ltb b (i + 1) && t b) (there b) (back b)
  where
    there : (b : ℕ) → (ltb b i && t b) ≡ true → (ltb b (i + 1) && t b) ≡ true
    there b k = let p = and_parts (ltb b i) (t b) k in and_from (ltb b (i + 1)) (t b) (lt-ltb b (i + 1) (omega (arith, ltb-true b i p.0))) p.1

    back : (b : ℕ) → (ltb b (i + 1) && t b) ≡ true → (ltb b i && t b) ≡ true
    back b k =
        let p = and_parts (ltb b (i + 1)) (t b) k in
        let m = ltb-true b (i + 1) p.0 in
        ⊎_elim (λ z. absurd (both_ways (t i) h (sym (ap t z) ∙ p.1))) (λ z. and_from (ltb b i) (t b) (lt-ltb b i (omega arith)) p.1) (cases_eq b i)
