-- The table found entry by entry is the first.
use Rattle.std.proofs.Common.{◌≡◌, ℕ, zero, suc, ◌+◌, ◌*◌, ◌/◌, ◌%◌, ◌<◌, true, false, sym, refl, ◌∙◌, subst, ⊎_elim, true≢false, arith}
use Rattle.std.proofs.lemmas.Bool.{cases_Bool}
use Rattle.relations.specs.Chains.{Acyclic}
use Rattle.grace.specs.Scene.{Scene, Sound}
use Rattle.grace.specs.Law.{Kept, Table, pair, enlarged}
use Rattle.grace.specs.First.{sooner, First, trial, Stepwise, FirstTableLaw}
use Rattle.grace.proofs.Closure.{On}
use Rattle.grace.proofs.Trips.{round_mono}
use Rattle.grace.proofs.Grounds.{Clear, Fenced, relay_mono, clear_mono, one_order}
use Rattle.grace.proofs.Rules.{ground, kept_clear, clear_kept}
use Rattle.grace.proofs.Entries.{Fences, no_fences, next_section, next_period, next_none, trial_with, with_trial, trial_pairs}
use Rattle.grace.proofs.Precedence.{obeyed_clear, clear_obeyed}

module _ (x : Scene) (sound : Sound x) where
  -- Kept with section first tried at place i, as fences
  module _ (F : Table) (i : ℕ) where
    Tried : Type 0
    Tried = Clear (ground x) (Fenced (Fences x sound F i) ((ground x).section_in (i / 64)) ((ground x).period_out (i % 64)))

    place : i / 64 * 64 + i % 64 ≡ i
    place = omega arith

    low : i % 64 < 64
    low = omega arith

    kept_tried : Kept x (trial x F (i / 64) (i % 64)) → Tried
    unfolding Tried
    kept_tried k =
        clear_mono (λ a b e. with_trial x sound F (i / 64) (i % 64) low a b
        (subst (λ j. Fenced (Fences x sound F j) ((ground x).section_in (i / 64)) ((ground x).period_out (i % 64)) a b) (sym place) e))
        (kept_clear x sound (trial x F (i / 64) (i % 64)) k)

    tried_kept : Tried → Kept x (trial x F (i / 64) (i % 64))
    unfolding Tried
    tried_kept t =
        clear_kept x sound (trial x F (i / 64) (i % 64))
        (clear_mono (λ a b e. subst (λ j. Fenced (Fences x sound F j) ((ground x).section_in (i / 64)) ((ground x).period_out (i % 64)) a b) place
        (trial_with x sound F (i / 64) (i % 64) low a b e)) t)

  -- no entry of a table found entry by entry makes a round
  clear_next : (F : Table) → Stepwise x F → (i : ℕ) → Clear (ground x) (Fences x sound F i) → Clear (ground x) (Fences x sound F (suc i))
  unfolding Tried
  clear_next F steps i clear r =
      ⊎_elim (λ e. ⊎_elim (section_there e) (period_there e) (cases_Bool (F (i / 64) (i % 64))))
      (λ e. clear_mono (next_none x sound F F i (λ l s u h. refl) e) clear r) (cases_Bool (pair x (i / 64) (i % 64)))
    where
      section_there : On (pair x) (i / 64) (i % 64) → F (i / 64) (i % 64) ≡ true → ⊥
      section_there e t = kept_tried F i ((steps (i / 64) (i % 64) e).0 t) (round_mono (relay_mono (next_section x sound F F i (λ l s u h. refl) t)) r)

      period_there : On (pair x) (i / 64) (i % 64) → F (i / 64) (i % 64) ≡ false → ⊥
      period_there e t =
          let still : Kept x (trial x F (i / 64) (i % 64)) =
          tried_kept F i (λ r'. one_order (ground x) (Fences x sound F i) (i / 64) (i % 64) clear r' (round_mono (relay_mono (next_period x sound F F i (λ l s u h. refl) t)) r)) in
          true≢false (sym ((steps (i / 64) (i % 64) e).1 still) ∙ t)

  clear_all : (F : Table) → Kept x x.strong → Stepwise x F → (i : ℕ) → Clear (ground x) (Fences x sound F i)
  clear_all F kept steps zero = clear_mono (no_fences x sound F) (kept_clear x sound x.strong kept)
  clear_all F kept steps (suc i) = clear_next F steps i (clear_all F kept steps i)

  -- where H obeys the law and has the section first, having agreed with F so far, the trial of F keeps the rules
  pub obeyed_trial : (F H : Table) (l s : ℕ) → ((k t : ℕ) → pair x k t ≡ true → sooner k t l s ≡ true → H k t ≡ F k t)
      → On (pair x) l s → H l s ≡ true → Acyclic (enlarged x H) → Kept x (trial x F l s)
  obeyed_trial F H l s same e t h =
      clear_kept x sound (trial x F l s) (clear_mono (trial_pairs x sound F H l s same e t) (obeyed_clear x sound H h))

  stepwise_first : Kept x x.strong → (F : Table) → Stepwise x F → First x F
  stepwise_first kept F steps = record {
    obeys = clear_obeyed x sound F (clear_all F kept steps 4096);
    no_sooner = λ H d h.
        true≢false (sym ((steps d.lock d.period d.is_pair).1
        (obeyed_trial F H d.lock d.period d.same_before d.is_pair d.section_in_F h)) ∙ d.period_in_H);
  }

pub first_table_law : FirstTableLaw
first_table_law x sound kept F steps = stepwise_first x sound kept F steps
