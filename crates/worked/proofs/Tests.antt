-- Tests on rows, and what they say of the relation.
use Rattle.std.proofs.lemmas.Bool.Decides.{nat_tests}
use Rattle.std.proofs.Common.{◌≡◌, ℕ, ◌≤◌, Bool, true, false, not, Decides, sym, refl, ap, ◌∙◌, arith}
use Rattle.std.proofs.lemmas.Bool.{both_ways, not_from_false, not_from_true}
use Rattle.rows.specs.Row.{any}
use Rattle.rows.proofs.Any.{any_some, any_false_at}
use Rattle.relations.specs.Algebra.{Rel, plus}
use Rattle.relations.specs.Chains.{Acyclic}
use Rattle.relations.proofs.Closure.{acyclic_test}
use Rattle.lkmm.specs.Rules.{Empty}
use Rattle.worked.specs.Worked.{Report, kept, broken, Says}
use Rattle.worked.proofs.Rows.{Rows, look}
use Rattle.worked.proofs.Programs.{Holds}

-- a test that is met speaks for a broken rule
abbrev pub verdict : Bool → Report
verdict true = broken
verdict false = kept

-- some event is related to itself
unfoldable pub loops : ℕ → Rows → Bool
loops n t = any n (λ a. look t a a)

-- some event is related to some event
unfoldable pub some_pair : ℕ → Rows → Bool
some_pair n t = any n (λ a. any n (look t a))

module _ (n : ℕ) (t : Rows) (r : Rel) (h : Holds n t r) where
  pub at : (a b : ℕ) {v : Bool} → look t a b ≡ v → r a b ≡ v
  at a b e = sym (ap (λ (q : Rel). q a b) h.same) ∙ e

  pub no_loop : loops n t ≡ false → (a : ℕ) → r a a ≡ true → ⊥
  unfolding loops
  no_loop e a l = both_ways _ (at a a (any_false_at n _ e a (h.within a a l).0)) l

  pub no_pair : some_pair n t ≡ false → Empty r
  unfolding some_pair
  no_pair e a b l =
      let p = h.within a b l in
      both_ways _ (at a b (any_false_at n _ (any_false_at n _ e a p.0) b p.1)) l

  pub a_pair : some_pair n t ≡ true → Empty r → ⊥
  unfolding some_pair
  a_pair e none =
      let p = any_some n _ e in
      let q = any_some n _ p.2 in
      none p.0 q.0 (at p.0 q.0 q.2)

-- whether a relation is empty
pub emptiness : (n : ℕ) (t : Rows) (r : Rel) → Holds n t r → Says (verdict (some_pair n t)) (Empty r)
emptiness n t r h = by (some_pair n t) refl
  where
    by : (v : Bool) → some_pair n t ≡ v → Says (verdict v) (Empty r)
    by true e = a_pair n t r h e
    by false e = no_pair n t r h e

-- whether it has a cycle, by the rows of its closure
module _ (n : ℕ) (few : n ≤ 64) (t u : Rows) (r : Rel) (h : Holds n t r) (k : Holds n u (plus r)) where
  decides : Decides (not (loops n u)) (Acyclic r)
  unfolding loops
  decides = acyclic_test r (look u) n _ few h.within k.same refl

  pub acyclic_by : loops n u ≡ false → Acyclic r
  acyclic_by e = decides.0 (not_from_false _ e)

  pub cyclic_by : loops n u ≡ true → Acyclic r → ⊥
  cyclic_by e none = both_ways _ (not_from_true _ e) (decides.1 none)

  pub acyclicity : Says (verdict (loops n u)) (Acyclic r)
  acyclicity = grind (arith, nat_tests, cyclic_by, acyclic_by)
