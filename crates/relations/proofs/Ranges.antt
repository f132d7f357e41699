-- On which events the relations of the algebra are.
use Rattle.std.proofs.lemmas.Bool.Decides.{nat_tests}
use Rattle.std.proofs.Common.{◌≡◌, ℕ, ◌^◌, ◌<◌, ◌≤◌, min, max, true, false, not, ⊎_elim, arith}
use Rattle.std.proofs.lemmas.Bool.{and_parts, or_cases}
use Rattle.rows.specs.Row.{bit}
use Rattle.rows.proofs.Bits.{bit_inside}
use Rattle.relations.specs.declared.kinds.Relation.{Relation}
use Rattle.relations.specs.Algebra.{Set, Rel, empty, identity, union, inter, diff, seq, product, from, to, within, only, pair, replaced}
use Rattle.relations.specs.Table.{On}
use Rattle.relations.specs.View.{rel, size}
use Rattle.rows.proofs.Any.{any_some}

pub on_rel : (x : Relation) → On (size x) (rel x)
unfolding rel
on_rel x = x.inside

-- an event past them has no targets
pub rel_past : (x : Relation) (a b : ℕ) → size x ≤ a → rel x a b ≡ false
rel_past x a b h = grind (arith, nat_tests, on_rel)

pub on_empty : (n : ℕ) → On n empty
unfolding empty
on_empty n a b h = absurd (let z : ◌≡◌ {A = ℕ} 0 1 = cc in omega arith)

pub on_identity : (n : ℕ) → On n (identity n)
unfolding identity
on_identity n a b h = grind (arith, nat_tests)

-- a relation on fewer events is on more
pub on_more : (m n : ℕ) (r : Rel) → m ≤ n → On m r → On n r
on_more m n r le on a b h = let p = on a b h in (omega (arith, p), omega (arith, p))

-- a relation of the code is on 64 at most
pub on_all : (x : Relation) → On 64 (rel x)
on_all x = on_more (size x) 64 (rel x) x.few (on_rel x)

module _ (n : ℕ) (r s : Rel) where
  pub on_either : On n r → On n s → On n (union r s)
  unfolding union
  on_either f g a b h = ⊎_elim (f a b) (g a b) (or_cases (r a b) (s a b) h)

  pub on_both : On n r → On n (inter r s)
  unfolding inter
  on_both f a b h = f a b (and_parts (r a b) (s a b) h).0

  pub on_less : On n r → On n (diff r s)
  unfolding diff
  on_less f a b h = f a b (and_parts (r a b) (not (s a b)) h).0

module _ (n : ℕ) (s t : Set) (a b : ℕ) (h : product (within n s) (within n t) a b ≡ true) where
  ends : (within n s a ≡ true) × (within n t b ≡ true)
  unfolding product
  ends = and_parts (within n s a) (within n t b) h

  product_parts : (s a ≡ true) × (t b ≡ true)
  unfolding within
  product_parts = grind (arith, nat_tests, ends)

  pub on_product : (a < n) × (b < n)
  unfolding within
  on_product = grind (arith, nat_tests, ends)

pub on_pair : (n a b : ℕ) → On n (pair n a b)
unfolding pair
on_pair n a b = on_product n (only a) (only b)

-- a product of two words, each cut to the first n events
pub on_words : (m n s t : ℕ) → m ≡ min n 64 → s < 2 ^ 64 → t < 2 ^ 64 → On m (product (within n (bit s)) (within n (bit t)))
on_words m n s t small hs ht a b h = grind (arith, nat_tests, on_product, product_parts, bit_inside)

pub on_from : (n : ℕ) (s : Set) (r : Rel) → On n r → On n (from s r)
unfolding from
on_from n s r on a b h = on a b (and_parts (s a) (r a b) h).1

pub on_to : (n : ℕ) (r : Rel) (t : Set) → On n r → On n (to r t)
unfolding to
on_to n r t on a b h = on a b (and_parts (r a b) (t b) h).0

pub on_replaced : (n a : ℕ) (s : Set) (r : Rel) → On n r → On n (replaced n a s r)
unfolding replaced within
on_replaced n a s r on x y h = grind (arith, nat_tests)

-- of two relations, on the larger of the two numbers
module _ (x y : Relation) (n : ℕ) (larger : n ≡ max (size x) (size y)) where
  on_left : On n (rel x)
  on_left = on_more _ n (rel x) (omega arith) (on_rel x)

  on_right : On n (rel y)
  on_right = on_more _ n (rel y) (omega arith) (on_rel y)

  pub on_union : On n (union (rel x) (rel y))
  on_union = on_either n _ _ on_left on_right

  pub on_inter : On n (inter (rel x) (rel y))
  on_inter = on_both n _ _ on_left

  pub on_diff : On n (diff (rel x) (rel y))
  on_diff = on_less n _ _ on_left

  pub on_seq : On n (seq (rel x) (rel y))
  unfolding seq
  on_seq a b h = grind (arith, nat_tests, any_some, on_left, on_right)
