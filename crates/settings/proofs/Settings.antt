-- What every setting has.
use Rattle.std.proofs.lemmas.Bool.Decides.{nat_tests}
use Rattle.std.proofs.Common.{◌≡◌, ℕ, ◌^◌, ◌<◌, true, false, cond, not, eqb, ap, ◌∙◌, subst, ap₂, ⊎_elim, arith}
use mathlib.Core.Path.{fun_ext}
use Rattle.std.proofs.lemmas.Bool.{both_ways, cases_Bool, eqb-false, ne_eqb, not-true, not_from_false, false_from_ne_true}
use Rattle.rows.specs.Row.{bit}
use Rattle.rows.proofs.Bits.{bit_zero}
use Rattle.rows.proofs.Words.{no_bits}
use Rattle.relations.specs.Algebra.{Set, Rel, any, inverse, opt, seq, to, image}
use Rattle.relations.specs.View.{rel, size}
use Rattle.relations.specs.declared.kinds.Relation.{Relation}
use Rattle.rows.proofs.Any.{any_some, any_from}
use Rattle.relations.proofs.Ranges.{on_rel, on_more, on_either, on_identity}
use Rattle.relations.proofs.Tables.{both_same}
use Rattle.grace.specs.Scene.{Sound, Within, Contains, gp, link}
use Rattle.grace.specs.Law.{before_unlock, from_on}
use Rattle.grace.specs.Sheet.{Sheet}
use Rattle.grace.specs.Deciding.{before_period, link_sheet}
use Rattle.settings.specs.Parts.{scene_of}
use Rattle.settings.proofs.Meeting.{covers_row}
use Rattle.settings.specs.View.{scene}
use Rattle.settings.specs.declared.kinds.Setting.{Setting}

-- program order backwards, and with each event itself
pub back_is : (x : Setting) → rel x.back ≡ inverse (rel x.po)
back_is x = fun_ext λ a. fun_ext λ b. x.backward a b

pub ahead_is : (x : Setting) → rel x.ahead ≡ opt (size x.po) (rel x.po)
ahead_is x = fun_ext λ a. fun_ext λ b. x.onward a b

-- both relate events alone
pub po_within : (x : Setting) → Within (scene x).count (scene x).po
unfolding scene_of
po_within x = on_rel x.po

pub from_on_within : (x : Setting) → Within (scene x).count (from_on (scene x))
unfolding scene_of from_on opt
from_on_within x = grind (arith, nat_tests, on_either, on_rel, on_identity)

-- gp as it is computed
pub gp_is : (po prop hb strong crit : Relation) (periods : ℕ) (ahead t g : Rel) → ahead ≡ opt (size po) (rel po) → t ≡ to (rel po) (bit periods) → g ≡ seq t ahead
    → g ≡ gp (scene_of po prop hb strong crit periods)
unfolding gp scene_of
gp_is po prop hb strong crit periods ahead t g e f h = h ∙ ap₂ seq f e

-- what contains one relation contains an equal one
pub contains_at : (r s t : Rel) → s ≡ t → Contains r s → Contains r t
contains_at r s t e h = subst (λ (u : Rel). Contains r u) e h

-- its scene is sound
pub sound : (x : Setting) → Sound (scene x)
unfolding scene_of
sound x = grind (arith, nat_tests, on_more, on_rel)

-- ---- what the words of a period, a section and an event have

-- a word that is not 0 has an event
some_any : (w : ℕ) → w < 2 ^ 64 → not (eqb w 0) ≡ any 64 (bit w)
some_any w fits = both_same (not (eqb w 0)) (any 64 (bit w)) there back
  where
    there : not (eqb w 0) ≡ true → any 64 (bit w) ≡ true
    there h =
        ⊎_elim (λ e. e) (λ e. absurd (eqb-false w 0 (not-true (eqb w 0) h) (no_bits 64 w fits (λ k l. false_from_ne_true (bit w k) (λ b. both_ways _ e (any_from 64 k (bit w) l b))))))
        (cases_Bool (any 64 (bit w)))

    back : any 64 (bit w) ≡ true → not (eqb w 0) ≡ true
    back h =
        let e = any_some 64 (bit w) h in
        not_from_false (eqb w 0) (ne_eqb w 0 (λ z. both_ways _ (ap (λ (n : ℕ). bit n e.0) z ∙ bit_zero e.0) e.2))

module _ (x : Setting) where
  pub before_period_yes : (s : ℕ) (w : Set) → w ≡ rel x.back s → (scene x).period s ≡ true → w ≡ before_period (scene x) s
  unfolding before_period scene_of inverse
  before_period_yes s w e p = grind (arith, nat_tests)

  pub before_period_no : (s : ℕ) → (scene x).period s ≡ false → bit 0 ≡ before_period (scene x) s
  unfolding before_period scene_of
  before_period_no s p = grind (arith, nat_tests, bit_zero)

  pub before_unlock_is : (l : ℕ) (u w : Set) → u ≡ rel x.crit l → w ≡ image (rel x.back) u → w ≡ before_unlock (scene x) l
  unfolding before_unlock scene_of image inverse
  before_unlock_is l u w e f = grind (arith, nat_tests)

  pub from_on_is : (e : ℕ) (w : Set) → w ≡ rel x.ahead e → w ≡ from_on (scene x) e
  unfolding from_on scene_of
  from_on_is e w f = f ∙ ap (λ (r : Rel). r e) (ahead_is x)

  -- links, as a sheet
  pub link_sheet_is : (r : Rel) (m : Sheet) → r ≡ link (scene x) (scene x).strong → m ≡ (λ a b. cond (r a b) 128 0) → m ≡ link_sheet (scene x)
  unfolding link_sheet scene_of
  link_sheet_is r m e f = grind (arith, nat_tests)

  -- a lock of a section: its row of unlocks is not empty
  pub lock_is : (l u : ℕ) → u < 2 ^ 64 → bit u ≡ rel x.crit l → not (eqb u 0) ≡ any 64 ((scene x).crit l)
  unfolding scene_of
  lock_is l u fits e = some_any u fits ∙ ap (any 64) e

  pub from_any_is : (s w : Set) → w ≡ image (rel x.ahead) s → w ≡ image (from_on (scene x)) s
  from_any_is s w f = grind (arith, nat_tests, from_on_is)

  pub before_any_is : (s w : Set) → w ≡ image (rel x.back) s → w ≡ image (inverse (scene x).po) s
  unfolding scene_of
  before_any_is s w f = f ∙ ap (λ (r : Rel). image r s) (back_is x)

-- what its methods answer by
pub ruleset setting_sets = (ahead_is, from_on_is, from_any_is, before_any_is, before_unlock_is, lock_is, before_period_yes, before_period_no, covers_row)
