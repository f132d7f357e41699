-- A relation turned round, one source after another.
use Rattle.std.proofs.Common.{◌≡◌, ℕ, ◌+◌, ◌^◌, ◌<◌, ◌≤◌, false, ltb, List, length, get_or, set, replicate, arith}
use Rattle.std.proofs.lemmas.Bool.Decides.{nat_tests}
use Rattle.rows.specs.Row.{Set, bit, adding, dropping}
use Rattle.rows.specs.Walk.{Taken}
use Rattle.relations.specs.Algebra.{Rel, empty, union, inverse, product, from, within, only, pair}
use Rattle.relations.specs.Table.{table, On}
use Rattle.relations.proofs.Tables.{table_zeros, row_is}
use Rattle.relations.proofs.Writes.{set_adds}

-- ---- a put into the rows that a set names

pub scatter_more : (rows : List ℕ) (a b w : ℕ) (s s' : Set) → length rows ≡ 64 → a < 64 → Taken s b s'
    → bit w ≡ adding a (bit (get_or rows b 0))
    → union (table (set rows b w)) (product s' (only a)) ≡ union (table rows) (product s (only a))
unfolding union pair product only within dropping
scatter_more rows a b w s s' long h taken new = grind (arith, nat_tests, set_adds)

pub scatter_all : (r : Rel) (a : ℕ) (s : Set) → ((x : ℕ) → s x ≡ false) → r ≡ union r (product s (only a))
unfolding union product
scatter_all r a s none = grind (arith, nat_tests)

-- ---- the pairs from the sources below i turned round

pub turn_none : (r : Rel) → table (replicate 64 0) ≡ inverse (from (λ x. ltb x 0) r)
unfolding inverse from empty
turn_none r = grind (arith, nat_tests, table_zeros)

pub turn_more : (rows : List ℕ) (i w : ℕ) (t : Rel) → i < 64 → w ≡ get_or rows i 0 → w < 2 ^ 64 → t ≡ inverse (from (λ x. ltb x i) (table rows))
    → union t (product (bit w) (only i)) ≡ inverse (from (λ x. ltb x (i + 1)) (table rows))
unfolding union product only inverse from
turn_more rows i w t h new l e = grind (arith, nat_tests, row_is)

pub turn_all : (m n : ℕ) (r : Rel) → n ≤ m → On n r → inverse (from (λ x. ltb x m) r) ≡ inverse r
unfolding inverse from
turn_all m n r le on = grind (arith, nat_tests)

pub on_inverse : (n : ℕ) (r : Rel) → On n r → On n (inverse r)
unfolding inverse
on_inverse n r on a b h = ((on b a h).1, (on b a h).0)
