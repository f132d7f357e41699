-- What one row of an operation's result holds, bit by bit.
use Rattle.std.proofs.Common.{◌≡◌, ℕ, ◌-◌, ◌^◌, ◌<◌, min, Bool, not, ◌&&◌, List, get_or, sym, ap, ◌∙◌, ap₂, arith}
use lib.Bits.{bit_and, bit_or}
use Rattle.std.proofs.lemmas.Bool.Decides.{nat_tests}
use Rattle.rows.specs.Row.{bit, adding, below}
use Rattle.rows.proofs.Bits.{bit-bit_or, bit-bit_and, bit_not, bit_zero}
use Rattle.relations.specs.Algebra.{Rel, identity, union, inter, diff, seq, product, from, to, within, image}
use Rattle.relations.specs.Table.{table}
use Rattle.relations.proofs.Tables.{table_at, row_is}

module _ (xs ys : List ℕ) (a : ℕ) (h : a < 64) where
  pub union_row : (b : ℕ) → b < 64 → bit (bit_or (get_or xs a 0) (get_or ys a 0)) b ≡ union (table xs) (table ys) a b
  unfolding union
  union_row b k = grind (arith, nat_tests, bit-bit_or, table_at)

  pub inter_row : (b : ℕ) → b < 64 → bit (bit_and (get_or xs a 0) (get_or ys a 0)) b ≡ inter (table xs) (table ys) a b
  unfolding inter
  inter_row b k = grind (arith, nat_tests, bit-bit_and, table_at)

  pub diff_row : get_or ys a 0 < 2 ^ 64 → (b : ℕ) → b < 64 → bit (bit_and (get_or xs a 0) ((2 ^ 64 - 1) - get_or ys a 0)) b ≡ diff (table xs) (table ys) a b
  unfolding diff
  diff_row l b k =
      bit-bit_and _ _ b ∙ ap₂ ◌&&◌ (sym (table_at xs a b h k)) (bit_not 64 _ b l k ∙ ap not (sym (table_at ys a b h k)))

pub identity_row : (a n w : ℕ) → a < 64 → a < n → bit w ≡ adding a (bit 0) → (b : ℕ) → b < 64 → bit w b ≡ identity n a b
unfolding identity adding
identity_row a n w h l e b k = grind (arith, nat_tests, bit_zero)

pub to_row : (xs : List ℕ) (a t : ℕ) → a < 64 → (b : ℕ) → b < 64 → bit (bit_and (get_or xs a 0) t) b ≡ to (table xs) (bit t) a b
unfolding to
to_row xs a t h b k = grind (arith, nat_tests, bit-bit_and, table_at)

-- a row that is kept where a is in the set s
pub from_row : (xs : List ℕ) (a s w : ℕ) → a < 64 → ((b : ℕ) → bit w b ≡ (bit s a && bit (get_or xs a 0) b)) → (b : ℕ) → b < 64 → bit w b ≡ from (bit s) (table xs) a b
unfolding from
from_row xs a s w h row b k = grind (arith, nat_tests, table_at)

pub product_row : (m n a s t w : ℕ) → m ≡ min n 64 → a < m → ((b : ℕ) → bit w b ≡ (bit s a && bit t b))
    → (b : ℕ) → b < m → bit w b ≡ product (within n (bit s)) (within n (bit t)) a b
unfolding product within
product_row m n a s t w small h row b k = row b ∙ grind (arith, nat_tests)

-- the same of a row that is cut at the last event
pub product_cut : (m n a s t v w : ℕ) (keep : Bool) → m ≡ min n 64 → a < m → bit v ≡ below m → keep ≡ bit s a → ((b : ℕ) → bit w b ≡ (keep && bit (bit_and t v) b))
    → (b : ℕ) → b < 64 → bit w b ≡ product (within n (bit s)) (within n (bit t)) a b
unfolding product within below
product_cut m n a s t v w keep small h low e row b k = row b ∙ rw (e, bit-bit_and t v b, low) (grind (arith, nat_tests))

-- the row of a sequence: the targets of the first step's targets
pub seq_row : (xs : List ℕ) (r : Rel) (a w : ℕ) → a < 64 → get_or xs a 0 < 2 ^ 64 → bit w ≡ image r (bit (get_or xs a 0)) → (b : ℕ) → b < 64 → bit w b ≡ seq (table xs) r a b
unfolding seq image
seq_row xs r a w h l e b k = grind (arith, nat_tests, row_is)
