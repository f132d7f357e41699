-- Steps that meet at one event, joined row by row.
use Rattle.std.proofs.Common.{◌≡◌, ℕ, ◌+◌, ◌<◌, ◌≤◌, Bool, true, false, ◌&&◌, ◌||◌, ltb, List, length, get_or, set, sym, refl, ap, ◌∙◌, ap₂, add-one, arith}
use mathlib.Core.Path.{fun_ext}
use lib.Bits.{bit_or}
use Rattle.std.proofs.lemmas.Bool.{false_from_ne_true, lt-ltb, le-ltb, both_ways}
use Rattle.std.proofs.lemmas.Bool.Decides.{nat_tests}
use Rattle.rows.specs.Row.{bit}
use Rattle.rows.proofs.Bits.{bit-bit_or, bit_zero}
use Rattle.relations.specs.Algebra.{Rel, paths}
use Rattle.relations.specs.Table.{table, via}
use Rattle.relations.proofs.Tables.{table_at, table_far, table_parts, table_row}
use Rattle.relations.proofs.Writes.{set_is}

-- the rows below i are joined through k, the others are not yet
unfoldable pub joined : ℕ → ℕ → Rel → Rel
joined k i r a b = r a b || (ltb a i && (r a k && r k b))

pub joined_none : (k : ℕ) (r : Rel) → r ≡ joined k 0 r
unfolding joined
joined_none k r = fun_ext λ a. fun_ext λ b. grind (arith, nat_tests)

-- row i itself is not joined yet
joined_here : (k i : ℕ) (r : Rel) (b : ℕ) → joined k i r i b ≡ r i b
unfolding joined
joined_here k i r b = rw (le-ltb i i (omega arith)) (grind (arith, nat_tests))

-- and is to be, where it has k
joined_next : (k i : ℕ) (r : Rel) (b : ℕ) → joined k (i + 1) r i b ≡ (r i b || (r i k && r k b))
unfolding joined
joined_next k i r b = rw (lt-ltb i (i + 1) (omega arith)) refl

joined_other : (k i a : ℕ) (r : Rel) (b : ℕ) → (a ≡ i → ⊥) → joined k i r a b ≡ joined k (i + 1) r a b
unfolding joined
joined_other k i a r b n = grind (arith, nat_tests)

-- whether row i has k is still as it was
pub joined_test : (rows old : List ℕ) (k i : ℕ) (t u : Bool) → k < 64 → i < 64 → table rows ≡ joined k i (table old) → t ≡ bit (get_or rows i 0) k → t ≡ u → table old i k ≡ u
joined_test rows old k i t u h l e f g = sym (joined_here k i (table old) k) ∙ sym (ap (λ (r : Rel). r i k) e) ∙ table_at rows i k l h ∙ sym f ∙ g

-- a row that lacks k stays
pub joined_skip : (k i : ℕ) (r : Rel) → r i k ≡ false → joined k i r ≡ joined k (i + 1) r
joined_skip k i r lacks = grind (arith, nat_tests, joined_other, joined_here, joined_next)

-- a row that has k takes those of k
pub joined_more : (rows old : List ℕ) (k i : ℕ) → i < length rows → k < 64 → i < 64 → table rows ≡ joined k i (table old) → table old i k ≡ true
    → table (set rows i (bit_or (get_or rows i 0) (get_or old k 0))) ≡ joined k (i + 1) (table old)
joined_more rows old k i long h l e has = set_is rows i _ (joined k (i + 1) (table old)) long l here past others
  where
    here : (b : ℕ) → b < 64 → bit (bit_or (get_or rows i 0) (get_or old k 0)) b ≡ joined k (i + 1) (table old) i b
    here b m =
        bit-bit_or _ _ b
        ∙ ap₂ ◌||◌ (sym (table_at rows i b l m) ∙ ap (λ (r : Rel). r i b) e ∙ joined_here k i (table old) b) (sym (table_at old k b h m))
        ∙ sym (joined_next k i (table old) b ∙ ap (λ (x : Bool). table old i b || (x && table old k b)) has)

    past : (b : ℕ) → 64 ≤ b → joined k (i + 1) (table old) i b ≡ false
    past b m = joined_next k i (table old) b ∙ rw (table_far old i b m, table_far old k b m, has) refl

    others : (a b : ℕ) → (a ≡ i → ⊥) → table rows a b ≡ joined k (i + 1) (table old) a b
    others a b n = ap (λ (r : Rel). r a b) e ∙ joined_other k i a (table old) b n

-- all rows
pub joined_past : (k m : ℕ) (r : Rel) → ((a b : ℕ) → r a b ≡ true → a < m) → joined k m r ≡ via k r
unfolding joined via
joined_past k m r on = grind (arith, nat_tests)

pub joined_all : (k m : ℕ) (rows : List ℕ) → length rows ≤ m → joined k m (table rows) ≡ via k (table rows)
joined_all k m rows le = grind (arith, nat_tests, joined_past, table_row)

-- an event with no targets joins nothing
pub via_none : (rows : List ℕ) (k : ℕ) → get_or rows k 0 ≡ 0 → table rows ≡ via k (table rows)
unfolding via
via_none rows k e = fun_ext λ a. fun_ext λ b. rw (none b) (grind (arith, nat_tests))
  where
    none : (b : ℕ) → table rows k b ≡ false
    none b = false_from_ne_true (table rows k b) (λ h. both_ways _ (ap (λ (v : ℕ). bit v b) e ∙ bit_zero b) (table_parts rows k b h).2)

-- one round of the closure
pub via_paths : (k : ℕ) (r s : Rel) → s ≡ paths k r → via k s ≡ paths (k + 1) r
unfolding via paths
via_paths k r s e = ap (via k) e ∙ ap (λ (n : ℕ). paths n r) (sym (add-one k))
