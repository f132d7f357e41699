-- Loops that write a table row by row: the first i rows are those of the relation wanted, the others are still empty.
use Rattle.std.proofs.lemmas.Bool.Decides.{nat_tests}
use Rattle.std.proofs.Common.{◌≡◌, ℕ, ◌+◌, ◌-◌, ◌^◌, ◌<◌, ◌≤◌, Bool, true, false, List, ◌++◌, length, get_or, set, take, drop, replicate, sym, refl, ap, ◌∙◌, subst, ⊎_elim, arith}
use mathlib.Core.Path.{fun_ext}
use Rattle.std.proofs.lemmas.List.{get_or-set_same, get_or-set_other, length-set, get_or-replicate, get_or_past, get_or-take, get_or-drop, get_or_append_left, get_or-append_right, length-take}
use Rattle.std.proofs.lemmas.Bool.{false_from_ne_true, lt-ltb, le-ltb, cases_lt, cases_eq, both_ways}
use Rattle.rows.specs.Row.{bit}
use Rattle.rows.proofs.Bits.{bit_zero, bit_outside}
use Rattle.relations.specs.Algebra.{Rel, empty}
use Rattle.relations.specs.Table.{table, On}

-- two tests that are true together are the same
pub both_same : (x y : Bool) → (x ≡ true → y ≡ true) → (y ≡ true → x ≡ true) → x ≡ y
both_same true y f g = sym (f refl)
both_same false true f g = g refl
both_same false false f g = refl

-- what holds of the events of a relation holds of an equal one
pub on_at : (n : ℕ) (r s : Rel) → r ≡ s → On n s → On n r
on_at n r s e on a b h = on a b (sym (ap (λ (t : Rel). t a b) e) ∙ h)

-- ---- the test of a table at events in range, and its parts

pub table_at : (rows : List ℕ) (a b : ℕ) → a < 64 → b < 64 → table rows a b ≡ bit (get_or rows a 0) b
unfolding table
table_at rows a b h k = rw (lt-ltb a 64 h, lt-ltb b 64 k) refl

pub table_parts : (rows : List ℕ) (a b : ℕ) → table rows a b ≡ true → (a < 64) × (b < 64) × (bit (get_or rows a 0) b ≡ true)
unfolding table
table_parts rows a b h = grind (arith, nat_tests)

-- a row that has a target is one of the rows
pub table_row : (rows : List ℕ) (a b : ℕ) → table rows a b ≡ true → a < length rows
table_row rows a b h =
    ⊎_elim (λ l. l) (λ l. absurd (both_ways _ (ap (λ (v : ℕ). bit v b) (get_or_past rows a 0 l) ∙ bit_zero b) (table_parts rows a b h).2)) (cases_lt a (length rows))

-- no target past the table
pub table_far : (rows : List ℕ) (a b : ℕ) → 64 ≤ b → table rows a b ≡ false
table_far rows a b h = false_from_ne_true (table rows a b) (λ e. omega (arith, (table_parts rows a b e).1))

-- a whole row, of a word of 64 bits
pub row_is : (rows : List ℕ) (a : ℕ) → a < 64 → get_or rows a 0 < 2 ^ 64 → bit (get_or rows a 0) ≡ table rows a
unfolding table
row_is rows a h l = grind (arith, nat_tests, bit_outside)

-- past the table
pub row_past : (rows : List ℕ) (a : ℕ) → 64 ≤ a → bit 0 ≡ table rows a
unfolding table
row_past rows a h = fun_ext λ b. rw (le-ltb a 64 h) (bit_zero b)

-- the row of an event, and an empty one of a number past the table
pub row_at : (rows : List ℕ) (a w : ℕ) → length rows ≡ 64 → w < 2 ^ 64 → w ≡ get_or rows a 0 → bit w ≡ table rows a
row_at rows a w long fits e = grind (arith, nat_tests, row_is, get_or_past, row_past)

-- one row replaced: that row, and the others
pub table_set_same : (rows : List ℕ) (i w b : ℕ) → i < length rows → i < 64 → b < 64 → table (set rows i w) i b ≡ bit w b
table_set_same rows i w b long h k = grind (arith, nat_tests, table_at, get_or-set_same)

pub table_set_other : (rows : List ℕ) (i w a b : ℕ) → (a ≡ i → ⊥) → table (set rows i w) a b ≡ table rows a b
unfolding table
table_set_other rows i w a b n = rw (get_or-set_other rows i a w 0 n) refl

-- ---- the invariant of a loop over the rows

-- the first i rows are those of r, and the others are empty
pub record Done (rows : List ℕ) (i : ℕ) (r : Rel) : Type 0 where
  pub long : length rows ≡ 64
  pub front : (a b : ℕ) → a < i → b < 64 → bit (get_or rows a 0) b ≡ r a b
  pub rest : (a : ℕ) → i ≤ a → get_or rows a 0 ≡ 0

-- rows of zeros, before the first turn
pub zeros_at : (a : ℕ) → ◌≡◌ {A = ℕ} (get_or (replicate 64 0) a 0) 0
zeros_at a = ⊎_elim (λ h. get_or-replicate 64 a 0 0 h) (λ h. get_or_past (replicate 64 0) a 0 h) (cases_lt a 64)

-- which are a table with no pair
pub table_zeros : table (replicate 64 0) ≡ empty
unfolding empty
table_zeros =
    fun_ext λ a. fun_ext λ b. false_from_ne_true (table (replicate 64 0) a b)
    (λ e. both_ways _ (ap (λ (v : ℕ). bit v b) (zeros_at a) ∙ bit_zero b) (table_parts (replicate 64 0) a b e).2)

pub done_none : (r : Rel) → Done (replicate 64 0) 0 r
done_none r = record { long = refl; front = λ a b h k. absurd (omega arith); rest = λ a h. zeros_at a }

-- and after any turns, where the empty relation is wanted
pub done_empty : (i : ℕ) → Done (replicate 64 0) i empty
unfolding empty
done_empty i = record { long = refl; front = λ a b h k. ap (λ (v : ℕ). bit v b) (zeros_at a) ∙ bit_zero b; rest = λ a h. zeros_at a }

-- one more row
pub done_more : (rows : List ℕ) (i w : ℕ) (r : Rel) → i < 64 → Done rows i r → ((b : ℕ) → b < 64 → bit w b ≡ r i b) → Done (set rows i w) (i + 1) r
done_more rows i w r h d new = record { long = length-set rows i w ∙ d.long; front = front; rest = rest }
  where
    front : (a b : ℕ) → a < i + 1 → b < 64 → bit (get_or (set rows i w) a 0) b ≡ r a b
    front a b l k = ⊎_elim same other (cases_eq a i)
      where
        same : a ≡ i → bit (get_or (set rows i w) a 0) b ≡ r a b
        same e = subst (λ (x : ℕ). bit (get_or (set rows i w) x 0) b ≡ r x b) (sym e) (ap (λ (v : ℕ). bit v b) (get_or-set_same rows i w 0 (omega (arith, d.long))) ∙ new b k)

        other : (a ≡ i → ⊥) → bit (get_or (set rows i w) a 0) b ≡ r a b
        other n = ap (λ (v : ℕ). bit v b) (get_or-set_other rows i a w 0 n) ∙ d.front a b (omega arith) k

    rest : (a : ℕ) → i + 1 ≤ a → get_or (set rows i w) a 0 ≡ 0
    rest a l = get_or-set_other rows i a w 0 (λ e. omega arith) ∙ d.rest a (omega arith)

-- a row that stays empty
pub done_skip : (rows : List ℕ) (i : ℕ) (r : Rel) → Done rows i r → ((b : ℕ) → b < 64 → r i b ≡ false) → Done rows (i + 1) r
done_skip rows i r d none = record { long = d.long; front = front; rest = λ a l. d.rest a (omega arith) }
  where
    front : (a b : ℕ) → a < i + 1 → b < 64 → bit (get_or rows a 0) b ≡ r a b
    front a b l k = ⊎_elim same other (cases_eq a i)
      where
        same : a ≡ i → bit (get_or rows a 0) b ≡ r a b
        same e = ap (λ (v : ℕ). bit v b) (d.rest a (omega arith)) ∙ bit_zero b ∙ sym (none b k) ∙ ap (λ (x : ℕ). r x b) (sym e)

        other : (a ≡ i → ⊥) → bit (get_or rows a 0) b ≡ r a b
        other n = d.front a b (omega arith) k

-- all rows: the table is the relation, where that is on the events of the loop
pub done_is : (rows : List ℕ) (i n : ℕ) (r : Rel) → n ≤ i → n ≤ 64 → On n r → Done rows i r → table rows ≡ r
done_is rows i n r end few on d = fun_ext λ a. fun_ext λ b. both_same (table rows a b) (r a b) (there a b) (back a b)
  where
    there : (a b : ℕ) → table rows a b ≡ true → r a b ≡ true
    there a b h =
        let p = table_parts rows a b h in
        ⊎_elim (λ l. sym (d.front a b l p.1) ∙ p.2)
        (λ l. absurd (both_ways _ (ap (λ (v : ℕ). bit v b) (d.rest a l) ∙ bit_zero b) p.2)) (cases_lt a i)

    back : (a b : ℕ) → r a b ≡ true → table rows a b ≡ true
    back a b h =
        let l = on a b h in
        table_at rows a b (omega (arith, l)) (omega (arith, l)) ∙ d.front a b (omega (arith, l)) (omega (arith, l)) ∙ h

-- ---- the first rows alone, which are all that a relation on so many events has

-- tables with the same first rows, and no pair past them
same_front : (n : ℕ) (xs ys : List ℕ) → ((a : ℕ) → a < n → get_or xs a 0 ≡ get_or ys a 0)
    → ((a b : ℕ) → table xs a b ≡ true → a < n) → ((a b : ℕ) → table ys a b ≡ true → a < n) → table xs ≡ table ys
unfolding table
same_front n xs ys same f g = grind (arith, nat_tests)

module _ (n : ℕ) (rows : List ℕ) (on : On n (table rows)) where
  pub front_table : table (take n rows) ≡ table rows
  front_table =
      same_front n (take n rows) rows (λ a l. get_or-take n rows a 0 l) (λ a b h. omega (arith, table_row (take n rows) a b h, length-take n rows))
      (λ a b h. (on a b h).0)

  -- the first rows written anew
  pub front_write : (new : List ℕ) → length new ≡ n → table (new ++ drop n rows) ≡ table new
  front_write new long =
      same_front n (new ++ drop n rows) new (λ a l. get_or_append_left new (drop n rows) 0 a (omega arith)) short (λ a b h. omega (arith, table_row new a b h))
    where
      short : (a b : ℕ) → table (new ++ drop n rows) a b ≡ true → a < n
      short a b h = ⊎_elim (λ l. l) (λ l. absurd (past l)) (cases_lt a n)
        where
          past : n ≤ a → ⊥
          past l =
              let p = table_parts (new ++ drop n rows) a b h in
              let m : n + (a - n) ≡ a = omega arith in
              let old : get_or (new ++ drop n rows) a 0 ≡ get_or rows a 0 =
              get_or-append_right new (drop n rows) n a 0 long l ∙ get_or-drop n rows (a - n) 0 ∙ ap (λ (x : ℕ). get_or rows x 0) m in
              omega (arith, l, (on a b (table_at rows a b p.0 p.1 ∙ sym (ap (λ (v : ℕ). bit v b) old) ∙ p.2)).0)

-- ---- what a value of the code owes: at most 64 events, and no pair past them

pub owes : (rows : List ℕ) (n : ℕ) (r : Rel) → n ≤ 64 → On n r → table rows ≡ r → record { few : n ≤ 64; inside : On n (table rows) }
owes rows n r few on e = record { few = few; inside = on_at n (table rows) r e on }
