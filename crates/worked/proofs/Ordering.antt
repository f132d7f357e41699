-- An execution with one section and one period: a table says one thing.
use Rattle.std.proofs.lemmas.Bool.Decides.{nat_tests}
use Rattle.std.proofs.Common.{◌≡◌, ℕ, ◌<◌, ◌≤◌, Bool, true, false, not, ◌&&◌, ◌||◌, eqb, sym, refl, subst, ⊎_elim, arith}
use mathlib.Core.Path.{fun_ext}
use Rattle.std.proofs.lemmas.Bool.{and_parts, and_from, or_parts, cases_Bool}
use Rattle.rows.proofs.Any.{any_some, any_from, any_false_at}
use Rattle.relations.specs.Algebra.{any, union}
use Rattle.relations.specs.Chains.{Acyclic}
use Rattle.relations.proofs.Tables.{both_same}
use Rattle.executions.specs.declared.sorts.Sort.TheVariants.{SyncRcu}
use Rattle.executions.specs.Execution.{Execution, count}
use Rattle.basis.specs.Meaning.{basis, of_sort}
use Rattle.basis.specs.Sections.{crit}
use Rattle.lkmm.specs.Model.{gp, strong_fence}
use Rattle.lkmm.specs.Rules.{Rcu, scene}
use Rattle.grace.specs.Scene.{Scene, Sound, pb}
use Rattle.grace.specs.Scene as Scenes
use Rattle.grace.specs.Law.{Kept, Table, pair, section_first, period_first, entry, pairs, enlarged}
use Rattle.grace.specs.First.{sooner, First}
use Rattle.grace.specs.Deciding.{first_table}
use Rattle.grace.proofs.Closure.{union_right}
use Rattle.grace.proofs.Precedence.{precedence_law}
use Rattle.grace.proofs.Deciding.{deciding_law}
use Rattle.worked.specs.Worked.{PutsFirst}
use Rattle.basis.proofs.Members.{sort_inside}
use Rattle.worked.proofs.Inside.{on_crit}
use Rattle.worked.proofs.Modelled.{rows, modelled, section_pb, period_pb}
use Rattle.worked.proofs.Tests.{loops, acyclic_by, cyclic_by}

module _ (x : Scene) (lock period : ℕ) (lock_small : lock < 64) (period_small : period < 64) (one : pair x lock period ≡ true)
    (only : (l s : ℕ) → pair x l s ≡ true → (l ≡ lock) × (s ≡ period)) where
  -- the pairs of a table are those of its one entry
  pairs_one : (F : Table) → pairs x F ≡ entry x F lock period
  unfolding pairs
  pairs_one F = fun_ext λ a. fun_ext λ b. both_same _ _ (there a b) (back a b)
    where
      there : (a b : ℕ) → any 64 (λ l. any 64 (λ s. pair x l s && entry x F l s a b)) ≡ true → entry x F lock period a b ≡ true
      there a b h =
          let l = any_some 64 _ h in
          let s = any_some 64 _ l.2 in
          let p = and_parts _ _ s.2 in
          let q = only l.0 s.0 p.0 in
          subst (λ (k : ℕ). entry x F k period a b ≡ true) q.0 (subst (λ (t : ℕ). entry x F l.0 t a b ≡ true) q.1 p.1)

      back : (a b : ℕ) → entry x F lock period a b ≡ true → any 64 (λ l. any 64 (λ s. pair x l s && entry x F l s a b)) ≡ true
      back a b h =
          any_from 64 lock _ lock_small
          (any_from 64 period _ period_small (and_from _ _ one h))

  -- so enlarged pb is one of two relations
  pub enlarged_section : (F : Table) → F lock period ≡ true → enlarged x F ≡ pb x (union x.strong (section_first x lock period))
  unfolding enlarged entry
  enlarged_section F e = grind (arith, nat_tests, pairs_one)

  pub enlarged_period : (F : Table) → F lock period ≡ false → enlarged x F ≡ pb x (union x.strong (period_first x lock period))
  unfolding enlarged entry
  enlarged_period F e = grind (arith, nat_tests, pairs_one)

-- ---- the scene of an execution

pub sound : (x : Execution) → count x ≤ 64 → Sound (scene (basis x))
unfolding scene basis strong_fence gp Scenes.gp
sound x few =
    let m = modelled x few 0 0 in
    record {
      few = few;
      prop_within = m.prop_rows.within;
      hb_within = m.hb_rows.within;
      crit_within = on_crit x;
      period_within = sort_inside x SyncRcu;
      periods_fence = λ a b e. union_right _ _ e;
    }

-- some other lock has a section, or there is some other period
unfoldable pub others : Execution → ℕ → ℕ → Bool
others x lock period =
    any (count x) (λ l. any (count x) (λ u. crit x l u && not (eqb l lock))) || any (count x) (λ s. of_sort SyncRcu x s && not (eqb s period))

-- a test that holds of an event that may not be another is of that event
that_one : (t : Bool) (a b : ℕ) → (t && not (eqb a b)) ≡ false → t ≡ true → a ≡ b
that_one t a b e h = grind (arith, nat_tests)

pub alone : (x : Execution) (lock period : ℕ) → others x lock period ≡ false → (l s : ℕ) → pair (scene (basis x)) l s ≡ true → (l ≡ lock) × (s ≡ period)
unfolding others pair scene basis
alone x lock period e l s h =
    let n : ℕ = count x in
    let o = or_parts _ _ e in
    let p = and_parts _ _ h in
    let u = any_some 64 _ p.0 in
    let i = on_crit x l u.0 u.2 in (
      that_one (crit x l u.0) l lock (any_false_at n _ (any_false_at n _ o.0 l i.0) u.0 i.1) u.2,
      that_one (of_sort SyncRcu x s) s period (any_false_at n _ o.1 s (sort_inside x SyncRcu s p.1)) p.1,
    )

-- ---- which goes first

abbrev all_sections : Table
all_sections l s = true

abbrev all_periods : Table
all_periods l s = false

not_sooner : (l s : ℕ) → sooner l s l s ≡ true → ⊥
unfolding sooner
not_sooner l s h = grind (arith, nat_tests)

module _ (x : Execution) (few : count x ≤ 64) (lock period : ℕ) (lock_small : lock < 64) (period_small : period < 64)
    (one : pair (scene (basis x)) lock period ≡ true) (alone_there : others x lock period ≡ false) where
  only : (l s : ℕ) → pair (scene (basis x)) l s ≡ true → (l ≡ lock) × (s ≡ period)
  only = alone x lock period alone_there

  section_enlarged : (F : Table) → F lock period ≡ true → enlarged (scene (basis x)) F ≡ section_pb x lock period
  unfolding section_pb
  section_enlarged = enlarged_section (scene (basis x)) lock period lock_small period_small one only

  period_enlarged : (F : Table) → F lock period ≡ false → enlarged (scene (basis x)) F ≡ period_pb x lock period
  unfolding period_pb
  period_enlarged = enlarged_period (scene (basis x)) lock period lock_small period_small one only

  -- a table that obeys the law shows that Rcu is kept, and that there is a first one
  obeyed_kept : (F : Table) → Acyclic (enlarged (scene (basis x)) F) → Kept (scene (basis x)) (scene (basis x)).strong
  obeyed_kept F h = (precedence_law (scene (basis x)) (sound x few)).1 (F, h)

  obeyed_rcu : (F : Table) → Acyclic (enlarged (scene (basis x)) F) → Rcu (basis x)
  unfolding scene
  obeyed_rcu F h = (obeyed_kept F h).1

  obeyed_first : (F : Table) → Acyclic (enlarged (scene (basis x)) F) → (t : Table) × First (scene (basis x)) t
  obeyed_first F h =
      let k = obeyed_kept F h in
      (first_table (scene (basis x)), (deciding_law (scene (basis x)) (sound x few) k.0).1 k.1)

  -- the section first in every table leaves no cycle: so it is in the first
  module _ (free : loops (count x) (rows x lock period 44) ≡ false) where
    section_obeys : Acyclic (enlarged (scene (basis x)) all_sections)
    section_obeys =
        let m = modelled x few lock period in
        subst Acyclic (sym (section_enlarged all_sections refl)) (acyclic_by (count x) few _ _ _ m.section_pb_rows m.section_pb_closed free)

    pub section_rcu : Rcu (basis x)
    section_rcu = obeyed_rcu all_sections section_obeys

    pub section_goes_first : PutsFirst x lock period true
    section_goes_first = record {
      is_pair = one;
      no_other = only;
      some_first = obeyed_first all_sections section_obeys;
      each_first = λ t f. ⊎_elim (λ e. e) (λ e. absurd (f.no_sooner all_sections (record {
        lock = lock;
        period = period;
        is_pair = one;
        section_in_F = refl;
        period_in_H = e;
        same_before = λ k s p q. absurd (not_sooner lock period (let w = only k s p in subst (λ (l : ℕ). sooner l period lock period ≡ true) w.0 (subst (λ (v : ℕ). sooner k v lock period ≡ true) w.1 q)));
      }) section_obeys)) (cases_Bool (t lock period));
    }

  -- the section first leaves a cycle, and the period first none
  module _ (bound : loops (count x) (rows x lock period 44) ≡ true) (free : loops (count x) (rows x lock period 46) ≡ false) where
    period_obeys : Acyclic (enlarged (scene (basis x)) all_periods)
    period_obeys =
        let m = modelled x few lock period in
        subst Acyclic (sym (period_enlarged all_periods refl)) (acyclic_by (count x) few _ _ _ m.period_pb_rows m.period_pb_closed free)

    pub period_rcu : Rcu (basis x)
    period_rcu = obeyed_rcu all_periods period_obeys

    pub period_goes_first : PutsFirst x lock period false
    period_goes_first = record {
      is_pair = one;
      no_other = only;
      some_first = obeyed_first all_periods period_obeys;
      each_first = λ t f. ⊎_elim (λ e. absurd (
          let m = modelled x few lock period in
          cyclic_by (count x) few _ _ _ m.section_pb_rows m.section_pb_closed bound (subst Acyclic (section_enlarged t e) f.obeys))) (λ e. e) (cases_Bool (t lock period));
    }
