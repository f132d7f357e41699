-- One row rewritten, as the algebra says it.
use Rattle.std.proofs.Common.{◌≡◌, ℕ, ◌<◌, ◌≤◌, Bool, false, ◌⊎◌, List, length, get_or, set, arith}
use mathlib.Core.Path.{fun_ext}
use lib.Bits.{bit_and}
use Rattle.std.proofs.lemmas.Bool.Decides.{nat_tests}
use Rattle.rows.specs.Row.{bit, adding, below}
use Rattle.rows.proofs.Bits.{bit-bit_and}
use Rattle.relations.specs.Algebra.{Rel, union, product, within, only, pair, replaced}
use Rattle.relations.specs.Table.{table}
use Rattle.relations.proofs.Tables.{table_at, table_far, table_set_same, table_set_other}

-- a table with row a rewritten is r, where r has the same other rows, that row, and no target past the table
pub set_is : (rows : List ℕ) (a w : ℕ) (r : Rel) → a < length rows → a < 64
    → ((b : ℕ) → b < 64 → bit w b ≡ r a b) → ((b : ℕ) → 64 ≤ b → r a b ≡ false) → ((x b : ℕ) → (x ≡ a → ⊥) → table rows x b ≡ r x b)
    → table (set rows a w) ≡ r
set_is rows a w r long h here past others = grind (arith, nat_tests, table_set_other, table_set_same, table_far)

-- row a with b added
pub set_adds : (rows : List ℕ) (n a b w : ℕ) → length rows ≡ 64 → n ≤ 64 → a < n → b < n → bit w ≡ adding b (bit (get_or rows a 0))
    → table (set rows a w) ≡ union (table rows) (pair n a b)
unfolding union pair product within only adding
set_adds rows n a b w long few h k e = set_is rows a w (union (table rows) (pair n a b)) (omega arith) (omega arith) here past others
  where
    here : (y : ℕ) → y < 64 → bit w y ≡ union (table rows) (pair n a b) a y
    here y l = rw (e, table_at rows a y (omega arith) l) (grind (arith, nat_tests))

    past : (y : ℕ) → 64 ≤ y → union (table rows) (pair n a b) a y ≡ false
    past y l = rw (table_far rows a y l) (grind (arith, nat_tests))

    others : (x y : ℕ) → (x ≡ a → ⊥) → table rows x y ≡ union (table rows) (pair n a b) x y
    others x y z = grind (arith, nat_tests)

-- a pair with an end past the events
pub pair_past : (n a b : ℕ) (r : Rel) → (n ≤ a) ⊎ (n ≤ b) → r ≡ union r (pair n a b)
unfolding union pair product within only
pair_past n a b r h = fun_ext λ x. fun_ext λ y. grind (arith, nat_tests)

-- row a set to the targets below n
pub set_replaces : (rows : List ℕ) (n a v w : ℕ) → length rows ≡ 64 → n ≤ 64 → a < n → bit v ≡ below n
    → table (set rows a (bit_and w v)) ≡ replaced n a (bit w) (table rows)
unfolding replaced within below
set_replaces rows n a v w long few h e =
    set_is rows a (bit_and w v) (replaced n a (bit w) (table rows)) (omega arith) (omega arith) (λ y l. rw (bit-bit_and w v y, e) (grind (arith, nat_tests)))
    (λ y l. grind (arith, nat_tests)) (λ x y z. grind (arith, nat_tests))

-- which changes nothing past the events
pub replaced_past : (n a : ℕ) (s : ℕ → Bool) (r : Rel) → n ≤ a → r ≡ replaced n a s r
unfolding replaced
replaced_past n a s r h = fun_ext λ x. fun_ext λ y. grind (arith, nat_tests)
