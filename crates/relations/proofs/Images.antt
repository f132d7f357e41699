-- The targets of a set, gathered from one source after another.
use Rattle.std.proofs.Common.{arith}
use Rattle.std.proofs.lemmas.Bool.Decides.{nat_tests}
use Rattle.std.proofs.Common.{◌≡◌, ℕ, ◌^◌, ◌<◌, Bool, true, false, ◌&&◌, ◌||◌, List, get_or, refl, ap, subst, ⊎_elim}
use mathlib.Core.Path.{fun_ext}
use Rattle.std.proofs.Math.Bool.{or_assoc}
use lib.Bits.{bit_or}
use Rattle.std.proofs.lemmas.Bool.{cases_eq, and_from, or_cases, or_left, or_right}
use Rattle.rows.specs.Row.{Set, bit, dropping, Lowest}
use Rattle.rows.specs.Walk.{Taken}
use Rattle.rows.proofs.Bits.{bit-bit_or, bit_zero}
use Rattle.rows.proofs.Words.{dropped_parts, dropped_from}
use Rattle.relations.specs.Algebra.{Rel, image}
use Rattle.relations.specs.Table.{table}
use Rattle.rows.proofs.Any.{any_some, any_from}
use Rattle.relations.proofs.Tables.{both_same, row_is}

-- what is in one set or the other
unfoldable pub either : Set → Set → Set
either s t b = s b || t b

-- ---- a target has a source in the set

module _ (r : Rel) (s : Set) (b : ℕ) where
  pub image_some : image r s b ≡ true → (a : ℕ) × (a < 64) × (s a ≡ true) × (r a b ≡ true)
  unfolding image
  image_some h = grind (arith, nat_tests, any_some)

  pub image_from : (a : ℕ) → a < 64 → s a ≡ true → r a b ≡ true → image r s b ≡ true
  unfolding image
  image_from a l h g = any_from 64 a (λ x. s x && r x b) l (and_from (s a) (r a b) h g)

-- an empty set has no targets
image_none : (r : Rel) (s : Set) → ((x : ℕ) → s x ≡ false) → (b : ℕ) → image r s b ≡ false
image_none r s none b = grind (arith, nat_tests, image_some)

-- the targets of a set are those of one of its events and those of the others
image_split : (c : ℕ) (s : Set) (r : Rel) → Lowest s c → (b : ℕ) → image r s b ≡ (r c b || image r (dropping c s) b)
image_split c s r low b = both_same (image r s b) (r c b || image r (dropping c s) b) there back
  where
    there : image r s b ≡ true → (r c b || image r (dropping c s) b) ≡ true
    there h =
        let e = image_some r s b h in
        ⊎_elim (λ z. or_left (r c b) _ (subst (λ (x : ℕ). r x b ≡ true) z e.3))
        (λ z. or_right (r c b) _ (image_from r (dropping c s) b e.0 e.1 (dropped_from c s e.0 z e.2) e.3)) (cases_eq e.0 c)

    back : (r c b || image r (dropping c s) b) ≡ true → image r s b ≡ true
    back h =
        ⊎_elim (λ e. image_from r s b c low.room low.member e)
        (λ e. let p = image_some r (dropping c s) b e in image_from r s b p.0 p.1 (dropped_parts c s p.0 p.2).1 p.3)
        (or_cases (r c b) (image r (dropping c s) b) h)

-- ---- the loop: before the first turn, one source on, and when none is left

or_last : (x y : Bool) → y ≡ false → (x || y) ≡ x
or_last true y e = refl
or_last false y e = e

-- before the first turn nothing is gathered, whatever set is to come
pub either_zero : (t : Set) → either (bit 0) t ≡ t
unfolding either
either_zero t = fun_ext λ b. ap (λ (x : Bool). x || t b) (bit_zero b)

pub gather_none : (r : Rel) (rest row : ℕ) → rest ≡ row → either (bit 0) (image r (bit rest)) ≡ image r (bit row)
unfolding either
gather_none r rest row e = grind (arith, nat_tests, bit_zero)

pub gather_more : (rows : List ℕ) (all c : ℕ) (s s' : Set) → get_or rows c 0 < 2 ^ 64 → Taken s c s'
    → either (bit (bit_or all (get_or rows c 0))) (image (table rows) s') ≡ either (bit all) (image (table rows) s)
unfolding either
gather_more rows all c s s' fits taken = grind (arith, nat_tests, bit-bit_or, or_assoc, row_is, image_split)

pub gather_all : (r : Rel) (all : ℕ) (s : Set) → ((x : ℕ) → s x ≡ false) → bit all ≡ either (bit all) (image r s)
unfolding either
gather_all r all s none = grind (arith, nat_tests, or_last, image_none)
