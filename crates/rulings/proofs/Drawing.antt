-- The sheet written row by row, and orders as columns.
use Rattle.std.proofs.Common.{◌≡◌, ℕ, ◌+◌, ◌<◌, List, length, get_or, take, set, sym, ◌∙◌, subst, ⊎_elim, arith, get_or-set_other, get_or-set_same}
use Rattle.std.proofs.lemmas.List.{get_or-take, get_or_default, length-take-le}
use Rattle.std.proofs.lemmas.Bool.{cases_eq}
use Rattle.relations.specs.View.{rel, size}
use Rattle.relations.specs.declared.kinds.Relation.{Relation}
use Rattle.relations.proofs.Ranges.{on_rel}
use Rattle.searches.specs.Places.{IsOrder}
use Rattle.searches.specs.View.{place}
use Rattle.searches.specs.declared.kinds.Order.{Order}
use Rattle.rulings.specs.declared.kinds.SheetRow.{SheetRow}
use Rattle.rulings.specs.Pages.{Column, OrderIn}
use Rattle.rulings.specs.Rulings.{row, blank}

-- one row more
pub drawn_more : (sheet : List SheetRow) (f : ℕ → SheetRow) (i : ℕ) (v : SheetRow) → i < length sheet → v ≡ f i → ((k : ℕ) → k < i → row sheet k ≡ f k)
    → (k : ℕ) → k < i + 1 → row (set sheet i v) k ≡ f k
drawn_more sheet f i v room e before k l = ⊎_elim same other (cases_eq k i)
  where
    same : k ≡ i → row (set sheet i v) k ≡ f k
    same q = rw (q, get_or-set_same sheet i v blank room) e

    other : (k ≡ i → ⊥) → row (set sheet i v) k ≡ f k
    other q = rw (get_or-set_other sheet i k v blank q) (before k (omega arith))

-- the places of an order, as a list
module _ (x : Relation) (o : Order) (long : length o.places ≡ 64) (ok : IsOrder (rel x) (size x) (place o)) where
  abbrev listed : List ℕ
  listed = take (size x) o.places

  same_place : (a : ℕ) → a < size x → get_or listed a 255 ≡ place o a
  unfolding place
  same_place a l = get_or-take (size x) o.places a 255 l ∙ get_or_default o.places a 255 0 (omega (arith, x.few))

  pub order_listed : IsOrder (rel x) (size x) (λ a. get_or listed a 255)
  order_listed = record {
    below = λ a l. subst (λ (n : ℕ). n < size x) (sym (same_place a l)) (ok.below a l);
    apart = λ a b l m e. ok.apart a b l m (sym (same_place a l) ∙ e ∙ same_place b m);
    rising = λ a b h. let p = on_rel x a b h in subst (λ (n : ℕ). n < get_or listed b 255) (sym (same_place a p.0)) (subst (λ (n : ℕ). place o a < n) (sym (same_place b p.1)) (ok.rising a b h));
  }

  pub order_in : (column : List ℕ) → Column listed column → OrderIn (rel x) (size x) column
  order_in column h = record { places = listed; all = length-take-le (size x) o.places (omega (arith, x.few)); order = order_listed; listed = h }
