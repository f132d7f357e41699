-- Relays of one kind, added one after another as long as none makes a round.
use Rattle.std.proofs.lemmas.Bool.Decides.{nat_tests}
use Rattle.std.proofs.Common.{◌≡◌, ℕ, suc, ◌+◌, ◌<◌, Bool, true, false, not, sym, refl, ap, ◌∙◌, subst, ⊎_elim, add-one, arith}
use Rattle.std.proofs.lemmas.Bool.{cases_eq, not-true, not-false}
use Rattle.rows.specs.Row.{bit}
use Rattle.rows.proofs.Any.{any_from, any_false_at, any_clear}
use Rattle.relations.specs.Algebra.{Set, any}
use Rattle.precedence.specs.declared.balances.Relay.{Relay}
use Rattle.grace.specs.Scene.{Scene, Sound}
use Rattle.grace.specs.Sheet.{Sheet, Fits, relayed, turns}
use Rattle.grace.specs.Deciding.{link_sheet, period_sheet, section_sheet}
use Rattle.grace.proofs.Stages.{calm_periods, calm_sections, period_fits, section_fits}
use Rattle.precedence.specs.Relays.{Stairs, turning, IsRelay}
use Rattle.precedence.specs.Turns.{period_turns, section_turns}

-- the first s relays are on the sheet, and none of them turned
pub record Climb (z : Stairs) (s : ℕ) (m : Sheet) : Type 0 where
  pub here : m ≡ z.stage s
  pub still : (k : ℕ) → k < s → turning z k ≡ false

pub climb_none : (z : Stairs) (m : Sheet) → m ≡ z.stage 0 → Climb z 0 m
climb_none z m e = record { here = e; still = λ k l. absurd (omega arith) }

module _ (z : Stairs) (s : ℕ) (m : Sheet) (r : Relay) (c : Climb z s m) (is : IsRelay z s r) where
  -- the test on the sheet is the test of the stage
  climb_test : turns m (bit r.into) (bit r.out) r.periods r.sections ≡ turning z s
  climb_test = grind (arith, nat_tests)

  climb_next : relayed m (bit r.into) (bit r.out) r.periods r.sections ≡ z.stage (suc s)
  climb_next = grind (arith, nat_tests)

  climb_still : turns m (bit r.into) (bit r.out) r.periods r.sections ≡ false → (k : ℕ) → k < suc s → turning z k ≡ false
  climb_still t k l = grind (arith, nat_tests)

  -- where all sheets fit as long as nothing turns, the next one does
  pub climb_fits : ((k : ℕ) → ((i : ℕ) → i < k → turning z i ≡ false) → Fits (z.stage k)) → turns m (bit r.into) (bit r.out) r.periods r.sections ≡ false
      → Fits (relayed m (bit r.into) (bit r.out) r.periods r.sections)
  climb_fits fits t = subst Fits (sym climb_next) (fits (suc s) (climb_still t))

  pub climb_turns : s < 64 → false ≡ not (turns m (bit r.into) (bit r.out) r.periods r.sections) → any 64 (turning z) ≡ true
  climb_turns l calm = any_from 64 s (turning z) l (sym climb_test ∙ not-false _ (sym calm))

-- the same of a relay that is given by its sets
module _ (z : Stairs) (s : ℕ) (m : Sheet) (into out : Set) (c : Climb z s m) (e : into ≡ z.ins s) (f : out ≡ z.outs s) where
  sets_test : turns m into out z.up z.down ≡ turning z s
  sets_test = rw (c.here, e, f) refl

  sets_next : relayed m into out z.up z.down ≡ z.stage (suc s)
  sets_next = rw (c.here, e, f) (sym (z.next s))

  sets_still : turns m into out z.up z.down ≡ false → (k : ℕ) → k < suc s → turning z k ≡ false
  sets_still t k l = ⊎_elim (λ h. rw h (sym sets_test ∙ t)) (λ h. c.still k (omega arith)) (cases_eq k s)

  pub sets_fit : ((k : ℕ) → ((i : ℕ) → i < k → turning z i ≡ false) → Fits (z.stage k)) → turns m into out z.up z.down ≡ false
      → Fits (relayed m into out z.up z.down)
  sets_fit fits t = subst Fits (sym sets_next) (fits (suc s) (sets_still t))

  module _ (r : Bool) (calm : r ≡ not (turns m into out z.up z.down)) where
    pub climb_more : (m' : Sheet) → r ≡ true → (r ≡ true → m' ≡ relayed m into out z.up z.down) → Climb z (s + 1) m'
    climb_more m' y more =
        let t = not-true _ (sym calm ∙ y) in
        record { here = more y ∙ sets_next ∙ ap z.stage (sym (add-one s)); still = λ k l. sets_still t k (omega arith) }

    pub sets_turn : s < 64 → r ≡ false → any 64 (turning z) ≡ true
    sets_turn l n = any_from 64 s (turning z) l (sym sets_test ∙ not-false _ (sym calm ∙ n))

-- all 64
pub climb_all : (z : Stairs) (s : ℕ) (m : Sheet) → s ≡ 64 → Climb z s m → (any 64 (turning z) ≡ false) × (m ≡ z.stage 64)
climb_all z s m e c = grind (arith, nat_tests, any_clear)

-- ---- periods, then sections

pub period_start : (x : Scene) → link_sheet x ≡ period_sheet x 0
unfolding period_sheet
period_start x = refl

pub section_start : (x : Scene) → period_sheet x 64 ≡ section_sheet x 0
unfolding section_sheet
section_start x = refl

module _ (x : Scene) (sound : Sound x) where
  pub period_stairs_fit : (s : ℕ) → ((k : ℕ) → k < s → period_turns x k ≡ false) → Fits (period_sheet x s)
  period_stairs_fit s still = period_fits x sound s (calm_periods x sound s still)

  pub section_stairs_fit : any 64 (period_turns x) ≡ false → (l : ℕ) → ((k : ℕ) → k < l → section_turns x k ≡ false) → Fits (section_sheet x l)
  section_stairs_fit none l still = section_fits x sound l (calm_sections x sound (calm_periods x sound 64 (any_false_at 64 (period_turns x) none)) l still)
