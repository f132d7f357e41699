-- The walk through the ties of a relation.
use Rattle.std.proofs.Common.{◌≡◌, ℕ, ◌+◌, ◌<◌, Bool, true, false, not, ◌&&◌, ◌||◌, eqb, ltb, ◌⊎◌, None, Option, sym, refl, ap, ◌∙◌, ap₂, inl, inr, ⊎_elim, arith}
use lib.Bits.{bit_or}
use Rattle.std.proofs.lemmas.Bool.{cases_eq, cases_lt, eq-eqb, ne_eqb, lt-ltb, le-ltb, and_cases, eqb-true, not-false}
use Rattle.rows.specs.Row.{Set, bit, any, adding, dropping}
use Rattle.rows.proofs.Bits.{bit_zero}
use Rattle.rows.proofs.Any.{any_none}
use Rattle.executions.specs.declared.faults.Fault.{Fault}
use Rattle.executions.specs.declared.ties.Relation.{Relation}
use Rattle.executions.specs.declared.ties.Relation.TheVariants.{Rf, Co, Addr, Data, Ctrl, Rmw}
use Rattle.executions.specs.Execution.{Execution}
use Rattle.wellformed.specs.Faults.{tie_fault, pair_fault, one_too_many}
use Rattle.wellformed.specs.declared.ties.Ends.{Ends}
use Rattle.wellformed.specs.Walk.{Before, over_by, source_if}
use Rattle.wellformed.proofs.Rows.{gathered_more}

-- where there is no tie there is no fault
pub untied : (x : Execution) (r : Relation) (a b : ℕ) → x.ties r a b ≡ false → tie_fault x r a b ≡ None
untied x r a b e = rw e refl

-- the limits, by what is carried along
pub over_is : (x : Execution) (r : Relation) (a b row targets sources : ℕ) → bit row ≡ x.ties r a → Before x r a targets sources
    → over_by r a b (bit row) (bit targets) (bit sources) ≡ one_too_many x r a b
over_is x Rf a b row targets sources e w = w.led_to b
over_is x Co a b row targets sources e w = refl
over_is x Addr a b row targets sources e w = refl
over_is x Data a b row targets sources e w = refl
over_is x Ctrl a b row targets sources e w = refl
over_is x Rmw a b row targets sources e w =
    ap₂ ◌||◌ (ap₂ ◌||◌ (w.led_to a) (w.come_from a)) (ap₂ ◌||◌ (ap₂ ◌||◌ (w.led_to b) (w.come_from b)) (ap (any b) e))

-- the fault of a tie that is there
pub tie_is : (x : Execution) (r : Relation) (a b : ℕ) (over : Bool) (o : Option Fault) → x.ties r a b ≡ true → over ≡ one_too_many x r a b
    → o ≡ pair_fault x r a b over → tie_fault x r a b ≡ o
tie_is x r a b over o t e d = rw t (ap (pair_fault x r a b) (sym e) ∙ sym d)

-- ---- one tie taken out of what is left

pub still_tied : (s t : Set) (b : ℕ) → t ≡ dropping b s → (e : ℕ) → t e ≡ true → s e ≡ true
unfolding dropping
still_tied s t b q e h = go (s e) (not (eqb e b)) (sym (ap (λ (u : Set). u e) q) ∙ h)
  where
    go : (x y : Bool) → (x && y) ≡ true → x ≡ true
    go true y k = refl
    go false y k = k

pub left_out : (s t : Set) (b : ℕ) → t ≡ dropping b s → (e : ℕ) → t e ≡ false → (s e ≡ false) ⊎ (e ≡ b)
unfolding dropping
left_out s t b q e h =
    ⊎_elim (λ k. inl k) (λ k. inr (eqb-true e b (not-false (eqb e b) k))) (and_cases (s e) (not (eqb e b)) (sym (ap (λ (u : Set). u e) q) ∙ h))

-- ---- one event more

or_true : (x : Bool) → (x || true) ≡ true
or_true true = refl
or_true false = refl

pub or-false : (x : Bool) → (x || false) ≡ x
or-false true = refl
or-false false = refl

pub ltb_next : (d a : ℕ) → (d ≡ a → ⊥) → ltb d (a + 1) ≡ ltb d a
ltb_next d a q =
    ⊎_elim (λ h. lt-ltb d (a + 1) (omega arith) ∙ sym (lt-ltb d a h)) (λ h. le-ltb d (a + 1) (omega arith) ∙ sym (le-ltb d a h)) (cases_lt d a)

pub before_none : (x : Execution) (r : Relation) → Before x r 0 0 0
before_none x r = record {
  led_to = λ e. bit_zero e ∙ sym (any_none _);
  come_from = λ e. bit_zero e ∙ sym (rw (le-ltb e 0 (omega arith)) refl);
}

pub before_more : (x : Execution) (r : Relation) (a targets sources row : ℕ) (next : Ends) → a < 64 → bit row ≡ x.ties r a → next.targets ≡ bit_or targets row
    → bit next.sources ≡ source_if (any 64 (bit row)) a (bit sources) → Before x r a targets sources → Before x r (a + 1) next.targets next.sources
unfolding adding
before_more x r a targets sources row next room e t n w = record {
  led_to = λ d. ap (λ (k : ℕ). bit k d) t ∙ gathered_more targets row d a (λ c. x.ties r c d) (w.led_to d) (ap (λ (s : Set). s d) e);
  come_from = λ d. ap (λ (s : Set). s d) n ∙ ⊎_elim (here d) (there d) (cases_eq d a);
}
  where
    tied : Bool
    tied = any 64 (bit row)

    is_tied : tied ≡ any 64 (x.ties r a)
    is_tied = ap (any 64) e

    here : (d : ℕ) → d ≡ a → source_if tied a (bit sources) d ≡ (ltb d (a + 1) && any 64 (x.ties r d))
    here d q = rw (q, lt-ltb a (a + 1) (omega arith), ← is_tied) (go tied)
      where
        go : (u : Bool) → source_if u a (bit sources) a ≡ u
        go true = rw (eq-eqb a a refl, lt-ltb a 64 room) (or_true (bit sources a))
        go false = w.come_from a ∙ rw (le-ltb a a (omega arith)) refl

    there : (d : ℕ) → (d ≡ a → ⊥) → source_if tied a (bit sources) d ≡ (ltb d (a + 1) && any 64 (x.ties r d))
    there d q = go tied ∙ w.come_from d ∙ ap (λ (u : Bool). u && any 64 (x.ties r d)) (sym (ltb_next d a q))
      where
        go : (u : Bool) → source_if u a (bit sources) d ≡ bit sources d
        go true = rw (ne_eqb d a q) (or-false (bit sources d))
        go false = refl
