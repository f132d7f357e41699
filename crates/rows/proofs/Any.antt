-- A search for a number below n that is in a set.
use Rattle.std.proofs.Common.{◌≡◌, ℕ, zero, suc, ◌+◌, ◌<◌, Bool, true, false, ◌||◌, List, Option, MatchOption, sym, refl, ap, ◌∙◌, subst, ap₂, ⊎_elim, arith}
use mathlib.Core.Path.{fun_ext}
use denote.Param.Members.{Mut}
use Rattle.std.proofs.iter.Yields.{nat_range_steps}
use Rattle.std.proofs.lemmas.Iterator.{YieldsList-from_range}
use Rattle.std.proofs.lemmas.Iterator.Search.{any_from_yields_List}
use Rattle.std.specs.Fn.{Called}
use Rattle.std.specs.Iterator.{YieldsThen}
use Rattle.std.specs.List.{FoldsTo, list_any, range_with_len}
use Rattle.std.specs.declared.ops.Range.{Range}
use Rattle.std.proofs.lemmas.Bool.{cases_eq, or_cases, or_left, or_right, false≢true, both_ways, false_from_ne_true}
use Rattle.rows.specs.Row.{Set, any}

pub any_none : (s : Set) → any 0 s ≡ false
unfolding any
any_none s = refl

-- the number found
pub any_from : (n c : ℕ) (s : Set) → c < n → s c ≡ true → any n s ≡ true
unfolding any
any_from zero c s h e = absurd (omega arith)
any_from (suc n) c s h e =
    ⊎_elim (λ q. or_left (s n) (any n s) (subst (λ (k : ℕ). s k ≡ true) q e)) (λ q. or_right (s n) (any n s) (any_from n c s (omega arith) e)) (cases_eq c n)

-- there is a number to be found
pub any_some : (n : ℕ) (s : Set) → any n s ≡ true → (c : ℕ) × (c < n) × (s c ≡ true)
unfolding any
any_some zero s h = absurd (false≢true h)
any_some (suc n) s h =
    ⊎_elim (λ e. (n, omega arith, e)) (λ e. let found = any_some n s e in (found.0, omega (arith, found.1), found.2)) (or_cases (s n) (any n s) h)

-- no number is in the set where none is found, and none is found where none is in it
pub any_false_at : (n : ℕ) (s : Set) → any n s ≡ false → (i : ℕ) → i < n → s i ≡ false
any_false_at n s e i h = false_from_ne_true (s i) (λ t. both_ways (any n s) e (any_from n i s h t))

pub any_clear : (s : Set) (n : ℕ) → ((i : ℕ) → i < n → s i ≡ false) → any n s ≡ false
any_clear s n none = false_from_ne_true (any n s) (λ e. let k = any_some n s e in both_ways (s k.0) (none k.0 k.1) k.2)

-- ---- a search by a chain over `0..n`

or_swap : (x y z : Bool) → (x || (y || z)) ≡ (y || (x || z))
or_swap true true z = refl
or_swap true false z = refl
or_swap false y z = refl

any_first : (n : ℕ) (s : Set) → any (suc n) s ≡ (s 0 || any n (λ x. s (suc x)))
unfolding any
any_first zero s = refl
any_first (suc n) s = ap (λ (t : Bool). s (suc n) || t) (any_first n s) ∙ or_swap (s (suc n)) (s 0) (any n (λ x. s (suc x)))

any_listed : (n a : ℕ) (s : Set) → list_any s (range_with_len a n) ≡ any n (λ x. s (a + x))
any_listed zero a s = sym (any_none (λ x. s (a + x)))
any_listed (suc n) a s =
    ap₂ ◌||◌ (ap s (omega arith)) (any_listed n (a + 1) s ∙ ap (any n) (fun_ext λ x. ap s (omega arith))) ∙ sym (any_first n (λ x. s (a + x)))

-- what `(0..n).any(..)` answers, where the closure computes the test of a set
pub any_over : {F : Type 0} {g : Mut F (ℕ × Unit {0}) Bool} {numbers : Range ℕ} (n : ℕ) (s : Set) (u : Range ℕ) (f : F) (r : Bool) → numbers ≡ record { start = 0; end = n }
    → (xs : List ℕ) × (o : Option ℕ) × (j : F) × YieldsThen nat_range_steps numbers xs o u × FoldsTo (λ p x q. Called g p (x, tt) false q) f xs j
    × MatchOption o (r ≡ false) (λ x. (r ≡ true) × ((h : F) × Called g j (x, tt) true h))
    → ((x : ℕ) (b : Bool) (q : F) → Called g f (x, tt) b q → (q ≡ f) × (b ≡ s x)) → r ≡ any n s
any_over n s u f r e ran test =
    any_from_yields_List s u f r ran (YieldsList-from_range 0 n n e (omega arith)) test ∙ any_listed n 0 s ∙ ap (any n) (fun_ext λ x. ap s (omega arith))
