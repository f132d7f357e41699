-- The rows of the first table, read off the sheet one after another.
use Rattle.std.proofs.lemmas.Bool.Decides.{nat_tests}
use Rattle.std.proofs.Common.{◌≡◌, ℕ, suc, ◌+◌, ◌≤◌, Bool, true, false, not, ◌&&◌, leb, sym, refl, ap, ◌∙◌, subst, ⊎_elim, arith}
use mathlib.Core.Path.{fun_ext}
use Rattle.std.proofs.lemmas.Bool.{and_parts, and_left, or_left, or_right, cases_lt, both_ways, false_from_ne_true}
use Rattle.rows.specs.Row.{bit}
use Rattle.rows.proofs.Bits.{bit_zero}
use Rattle.relations.specs.Algebra.{Set, any, within, image}
use Rattle.relations.specs.Table.{On}
use Rattle.rows.proofs.Any.{any_some, any_from}
use Rattle.grace.specs.Scene.{Scene, Sound}
use Rattle.grace.specs.Law.{Rcu, pair, before_unlock, from_on}
use Rattle.grace.specs.Sheet.{Sheet, Fits, most, relayed}
use Rattle.grace.specs.Deciding.{rounds, row, behind, row_sheet, section_sheet, first_table}
use Rattle.grace.proofs.Stages.{rounds_none, none_rounds, kept_calm, calm_rows, row_fits}
use Rattle.grace.proofs.Entries.{pair_small}
use Rattle.precedence.specs.Turns.{period_turns, section_turns}
use Rattle.precedence.proofs.Gathering.{gathered_at, gathered_far}
use Rattle.precedence.proofs.Turning.{turns_when, relayed_none}

-- no round at all: none of a period, none of a section
pub no_rounds : (x : Scene) → any 64 (period_turns x) ≡ false → any 64 (section_turns x) ≡ false → rounds x ≡ false
unfolding rounds
no_rounds x p s = grind (arith, nat_tests)

pub row_start : (x : Scene) → section_sheet x 64 ≡ row_sheet x 0
unfolding row_sheet
row_start x = refl

row_next : (x : Scene) (l : ℕ) → row_sheet x (suc l) ≡ relayed (row_sheet x l) (before_unlock x l) (behind x (row_sheet x l) l) 0 0
unfolding row_sheet
row_next x l = refl

first_row : (x : Scene) (l : ℕ) → first_table x l ≡ row x (row_sheet x l) l
unfolding first_table
first_row x l = refl

module _ (x : Scene) (sound : Sound x) where
  -- a round of either kind breaks Rcu
  pub period_breaks : any 64 (period_turns x) ≡ true → Rcu x x.strong → ⊥
  unfolding rounds
  period_breaks e rcu = both_ways (rounds x) (none_rounds x sound rcu) (or_left (any 64 (period_turns x)) (any 64 (section_turns x)) e)

  pub section_breaks : any 64 (section_turns x) ≡ true → Rcu x x.strong → ⊥
  unfolding rounds
  section_breaks e rcu = both_ways (rounds x) (none_rounds x sound rcu) (or_right (any 64 (period_turns x)) (any 64 (section_turns x)) e)

  -- the table has only pairs of a section and a period
  pub first_on : On 64 (first_table x)
  unfolding first_table row
  first_on l s e = grind (arith, nat_tests, pair_small)

  -- a lock of no section: an empty row, and the sheet as it was
  module _ (l : ℕ) (none : any 64 (x.crit l) ≡ false) where
    no_pair : (s : ℕ) → pair x l s ≡ false
    unfolding pair
    no_pair s = and_left (any 64 (x.crit l)) (x.period s) none

    no_before : (a : ℕ) → before_unlock x l a ≡ false
    unfolding before_unlock
    no_before a = false_from_ne_true _ (λ h.
        let e = any_some 64 (λ u. x.po a u && x.crit l u) h in
        both_ways _ none (any_from 64 e.0 (x.crit l) e.1 (and_parts (x.po a e.0) (x.crit l e.0) e.2).1))

    pub empty_row : bit 0 ≡ first_table x l
    unfolding row
    empty_row = grind (arith, nat_tests, bit_zero, no_pair, first_row)

    pub same_sheet : (m : Sheet) → m ≡ row_sheet x l → m ≡ row_sheet x (suc l)
    same_sheet m e = grind (arith, nat_tests, relayed_none, no_before, row_next)

  -- a lock of a section: the periods after which nothing closes a round with it
  module _ (l : ℕ) (lock : any 64 (x.crit l) ≡ true) (m : Sheet) (into closing word out : Set) (reach : ℕ → ℕ) (here : m ≡ row_sheet x l) (i : into ≡ before_unlock x l)
      (r : reach ≡ (λ d. most 64 into (m d))) (c : closing ≡ within 64 (λ d. leb 128 (reach d + 0)))
      (w : word ≡ within 64 (λ s. x.period s && not (any 64 (λ d. from_on x s d && closing d)))) where
    is_pair : (s : ℕ) → pair x l s ≡ x.period s
    unfolding pair
    is_pair s = ap (λ (t : Bool). t && x.period s) lock

    row_entry : (s : ℕ) → (x.period s && not (any 64 (λ d. from_on x s d && closing d))) ≡ row x m l s
    unfolding row
    row_entry s = rw (is_pair s, ← i) (ap (λ (t : Bool). x.period s && not t) (turns_when m into (from_on x s) closing 0 0 reach r c))

    row_word : word ≡ row x m l
    row_word = fun_ext λ s. ⊎_elim (λ h. gathered_at word _ s h w ∙ row_entry s) (λ h. gathered_far word _ s h w ∙ sym (far s h)) (cases_lt s 64)
      where
        far : (s : ℕ) → 64 ≤ s → row x m l s ≡ false
        far s h = false_from_ne_true (row x m l s) (λ e. both_ways (x.period s)
            (false_from_ne_true _ (λ p. omega (arith, sound.period_within s p, sound.few))) (and_parts (x.period s) _ (row_entry s ∙ e)).0)

    pub row_is : word ≡ first_table x l
    row_is = grind (arith, nat_tests, row_word, first_row)

    module _ (o : out ≡ image (from_on x) word) where
      behind_is : out ≡ behind x m l
      unfolding behind image
      behind_is = o ∙ fun_ext λ b. rw row_word refl

      relayed_is : relayed m into out 0 0 ≡ row_sheet x (suc l)
      relayed_is = rw (i, behind_is, here) (sym (row_next x l))

      pub row_more : (m' : Sheet) → m' ≡ relayed m into out 0 0 → m' ≡ row_sheet x (suc l)
      row_more m' e = e ∙ relayed_is

      pub row_fit : rounds x ≡ false → Fits (relayed m into out 0 0)
      row_fit none = subst Fits (sym relayed_is) (row_fits x sound (suc l) (calm_rows x sound (kept_calm x sound (rounds_none x sound none)) (suc l)))
