-- Sections: in words, and as a walk through a thread finds them.
use Rattle.std.proofs.Common.{◌≡◌, ℕ, zero, suc, ◌+◌, ◌<◌, ◌≤◌, true, false, cond, ◌&&◌, ◌||◌, eqb, ltb, leb, sym, ap, ◌∙◌, subst, ap₂, ⊎_elim, arith}
use mathlib.Core.Path.{fun_ext}
use Rattle.std.proofs.lemmas.List.{get_or_past}
use Rattle.std.proofs.lemmas.Bool.{cases_Bool, cases_eq, and_parts, and_from, and_left, and_right, lt-ltb, eqb-true, eq-eqb, cond-false, cond-true}
use Rattle.std.proofs.lemmas.Bool.Decides.{nat_tests}
use Rattle.rows.proofs.Any.{any_from, any_some}
use Rattle.relations.specs.Algebra.{Rel, empty, union, pair, product, within, only}
use Rattle.relations.proofs.Tables.{both_same}
use Rattle.executions.specs.declared.events.Event.{Event}
use Rattle.executions.specs.Execution.{Execution, count, event_at}
use Rattle.wellformed.proofs.Walking.{ltb_next, or-false}
use Rattle.wellformed.specs.Events.{unlock_of, unlocks, depth, outermost, Section}
use Rattle.wellformed.specs.Faults.{last_lock}
use Rattle.basis.specs.Sections.{gap, closes, crit, HasSections}

-- ---- a section in words

gap_at : (x : Execution) (t l u i : ℕ) → l < i → i < u → depth x t i ≡ 0 → gap x t l u ≡ true
unfolding gap
gap_at x t l u i h k e = any_from u i (λ j. ltb l j && eqb (depth x t j) 0) k (and_from _ _ (lt-ltb l i h) (eq-eqb _ _ e))

no_gap : (x : Execution) (t l u : ℕ) → ((i : ℕ) → l < i → i < u → 0 < depth x t i) → gap x t l u ≡ false
unfolding gap
no_gap x t l u held = grind (arith, nat_tests, any_some)

section_of : (x : Execution) (t l u : ℕ) → closes x t l u ≡ true → Section x t l u
unfolding closes
section_of x t l u h = grind (arith, nat_tests, gap_at)

closed_by : (x : Execution) (t l u : ℕ) → Section x t l u → closes x t l u ≡ true
unfolding closes
closed_by x t l u s = grind (arith, nat_tests, no_gap)

pub crit_in_words : (x : Execution) (r : Rel) → r ≡ crit x → HasSections x r
unfolding crit
crit_in_words x r e l u = grind (arith, nat_tests, section_of, closed_by)

-- ---- the lock that an unlock closes

-- the outermost lock o is open from there to event i
record Open (x : Execution) (t i o : ℕ) : Type 0 where
  before : o < i
  begins : outermost x t o ≡ true
  stays : (j : ℕ) → o < j → j ≤ i → 0 < depth x t j

-- where none is open and no lock comes, none is open after
shut : (x : Execution) (t i : ℕ) → outermost x t i ≡ false → depth x t i ≡ 0 → depth x t (suc i) ≡ 0
unfolding depth
shut x t i o e = grind (arith, nat_tests)

-- where a lock is open, the last outermost one is
still_open : (x : Execution) (t i : ℕ) → 0 < depth x t i → Open x t i (last_lock x t i)
unfolding depth last_lock
still_open x t zero h = absurd (omega arith)
still_open x t (suc i) h = ⊎_elim here (λ o. there o (still_open x t i (inside o))) (cases_Bool (outermost x t i))
  where
    here : outermost x t i ≡ true → Open x t (suc i) (cond (outermost x t i) i (last_lock x t i))
    here o =
        subst (Open x t (suc i)) (sym (cond-true _ _ _ o))
        (record { before = omega arith; begins = o; stays = λ j a b. let q : suc i ≡ j = omega arith in subst (λ (k : ℕ). 0 < depth x t k) q h })

    inside : outermost x t i ≡ false → 0 < depth x t i
    inside o = ⊎_elim (λ e. absurd (omega (arith, h, shut x t i o e))) (λ e. omega arith) (cases_eq (depth x t i) 0)

    there : outermost x t i ≡ false → Open x t i (last_lock x t i) → Open x t (suc i) (cond (outermost x t i) i (last_lock x t i))
    there o w =
        subst (Open x t (suc i)) (sym (cond-false _ _ _ o))
        (record {
          before = omega (arith, w.before);
          begins = w.begins;
          stays = λ j a b. ⊎_elim (λ e. subst (λ (k : ℕ). 0 < depth x t k) (sym e) h) (λ e. w.stays j a (omega arith)) (cases_eq j (suc i));
        })

-- an outermost lock has none open before it
none_open : (x : Execution) (t l : ℕ) → outermost x t l ≡ true → depth x t l ≡ 0
none_open x t l o = grind (arith, nat_tests)

-- an unlock of the only open lock closes that one and no other
closed_one : (x : Execution) (t l u : ℕ) → (unlocks x t u && eqb (depth x t u) 1) ≡ true → closes x t l u ≡ eqb l (last_lock x t u)
closed_one x t l u e = grind (arith, nat_tests, both_same, still_open, section_of, none_open, closed_by)

-- any other event closes none
closed_none : (x : Execution) (t l u : ℕ) → (unlocks x t u && eqb (depth x t u) 1) ≡ false → closes x t l u ≡ false
unfolding closes
closed_none x t l u e = and_right (outermost x t l) _ (and_left _ _ e)

-- ---- the walk through a thread

-- the sections of thread t that are closed before event i
unfoldable pub closed_before : Execution → ℕ → ℕ → Rel
closed_before x t i l u = ltb u i && closes x t l u

pub walk_none : (x : Execution) (t : ℕ) (r : Rel) → r ≡ union r (closed_before x t 0)
unfolding union closed_before
walk_none x t r = grind (arith, nat_tests)

-- event i is no last unlock
pub walk_skip : (x : Execution) (t i : ℕ) (e : Event) (d : ℕ) (r s : Rel) → e ≡ event_at x i → d ≡ depth x t i → s ≡ union r (closed_before x t i)
    → (unlock_of t e && eqb d 1) ≡ false → s ≡ union r (closed_before x t (i + 1))
unfolding union closed_before
walk_skip x t i e d r s p q w n = grind (arith, nat_tests, closed_none)

-- it is one, and its section is added
pub walk_add : (x : Execution) (t i n o : ℕ) (e : Event) (d : ℕ) (r s s' : Rel) → i < n → e ≡ event_at x i → d ≡ depth x t i → o ≡ last_lock x t i
    → s ≡ union r (closed_before x t i) → (unlock_of t e && eqb d 1) ≡ true → s' ≡ union s (pair n o i) → s' ≡ union r (closed_before x t (i + 1))
unfolding union closed_before pair product within only
walk_add x t i n o e d r s s' room p q k w n' v =
    v ∙ ap (λ (f : Rel). union f (pair n o i)) w
    ∙ (fun_ext λ l. fun_ext λ u. ⊎_elim (here l u) (λ z. grind (arith, nat_tests)) (cases_eq u i))
  where
    one : (unlocks x t i && eqb (depth x t i) 1) ≡ true
    one = sym (ap₂ (λ (f : Event) (k : ℕ). unlock_of t f && eqb k 1) p q) ∙ n'

    before : o < i
    before =
        omega (arith, k, (still_open x t i (omega (arith, eqb-true (depth x t i) 1 (and_parts (unlocks x t i) (eqb (depth x t i) 1) one).1))).before)

    here : (l u : ℕ) → u ≡ i
        → ((r l u || (ltb u i && closes x t l u)) || ((ltb l n && eqb l o) && (ltb u n && eqb u i))) ≡ (r l u || (ltb u (i + 1) && closes x t l u))
    here l u z =
        let c : closes x t l u ≡ eqb l o = subst (λ (j : ℕ). closes x t l j ≡ eqb l o) (sym z) (closed_one x t l i one ∙ ap (eqb l) (sym k)) in
        let h : o < i = before in
        rw c (grind (arith, nat_tests))

-- after the last event there is none to close
pub walk_all : (x : Execution) (t i : ℕ) (r s : Rel) → i ≡ count x → s ≡ union r (closed_before x t i) → s ≡ union r (closes x t)
unfolding union closed_before
walk_all x t i r s e w = grind (arith, nat_tests, get_or_past, closed_none)

-- ---- the threads

-- the sections of the threads before thread t
unfoldable pub of_threads : Execution → ℕ → Rel
of_threads x t l u = (leb 1 (event_at x l).thread && ltb (event_at x l).thread t) && closes x (event_at x l).thread l u

pub threads_none : (x : Execution) (r : Rel) → r ≡ empty → r ≡ of_threads x 1
unfolding empty of_threads
threads_none x r e = grind (arith, nat_tests)

-- a section begins with a lock of its thread
closed_alien : (x : Execution) (t l u : ℕ) → ((event_at x l).thread ≡ t → ⊥) → closes x t l u ≡ false
unfolding closes
closed_alien x t l u z = grind (arith, nat_tests)

pub threads_more : (x : Execution) (t : ℕ) (r s : Rel) → 1 ≤ t → r ≡ of_threads x t → s ≡ union r (closes x t) → s ≡ of_threads x (t + 1)
unfolding union of_threads
threads_more x t r s low e v = grind (arith, nat_tests, closed_alien, ltb_next, or-false)

pub threads_all : (x : Execution) (t : ℕ) (r : Rel) → t ≡ 9 → r ≡ of_threads x t → r ≡ crit x
unfolding of_threads crit
threads_all x t r e w = grind (arith, nat_tests)
