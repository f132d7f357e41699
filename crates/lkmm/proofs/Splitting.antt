-- Read-modify-writes that are split, found in the rows of the code.
use Rattle.std.proofs.lemmas.Bool.Decides.{nat_tests}
use Rattle.std.proofs.Common.{◌≡◌, ℕ, ◌<◌, ◌≤◌, true, false, ◌&&◌, Some, None, Option, sym, ap, ◌∙◌, arith, MatchOption, ◌+◌, ◌-◌, not, is_some, option_map, unwrap_or, IfSome, IsSomeAnd, IsTrue, Decides, refl, subst, ⊎_elim}
use lib.Bits.{bit_and}
use Rattle.std.proofs.lemmas.Bool.{both_ways, and_left, cases_lt, false≢true}
use Rattle.rows.specs.Row.{Set, bit, Lowest}
use denote.Param.Members.{Mut, Called}
use Rattle.std.specs.declared.ops.Range.{Range}
use Rattle.std.specs.Iterator.Runs.{SomeRun, AllItemsGive, IsFirstToGive, CallKeepsClosure}
use Rattle.std.proofs.iter.Yields.{nat_range_steps}
use Rattle.std.proofs.iter.runs.Sources.{range_runs}
use Rattle.rows.proofs.Any.{any_some}
use Rattle.rows.proofs.Bits.{bit-bit_and}
use Rattle.relations.specs.Algebra.{Rel, inter, inverse, seq, image}
use Rattle.relations.specs.View.{rel, size}
use Rattle.relations.proofs.Ranges.{rel_past}
use Rattle.lkmm.specs.Model.{fre}
use Rattle.lkmm.specs.Rules.{At, broken_rmw, IsAtRound}
use Rattle.lkmm.specs.Held.{held}
use Rattle.lkmm.specs.declared.kinds.Model.{Model}
use Rattle.lkmm.specs.declared.atomicity.SplitRmw.{SplitRmw}

-- ---- `find_map` over a range

at_number : (P : ℕ → Type 0) (o : Option ℕ) (k : ℕ) → option_map (λ y. y) o ≡ Some k → IfSome o P → P k
at_number P None k e h = absurd (false≢true (ap is_some e))
at_number P (Some x) k e h = subst P (ap (λ o. unwrap_or o 0) e) h

some_at : {A : Type 0} (P : A → Type 0) (Q : Type 0) (o : Option A) → IsSomeAnd o P → ((x : A) → P x → Q) → Q
some_at P Q None h k = absurd h
some_at P Q (Some x) h k = k x h

module _ {F B : Type 0} {g : Mut F (ℕ × Unit {0}) (Option B)} (No : ℕ → Type 0) (Yes : B → Type 0) (s : Range ℕ) (f : F) where
  pub mapped_range : (r : Option B)
      → SomeRun nat_range_steps s (λ p. MatchOption r (IsTrue p.whole × AllItemsGive p g f None) (λ y. (i : ℕ) × (i < p.len) × (p.len ≡ i + 1) × IsFirstToGive p g f (Some y) None i))
      → CallKeepsClosure g f → ((x : ℕ) → Called g f (x, tt) None f → No x) → ((x : ℕ) (y : B) → Called g f (x, tt) (Some y) f → Yes y)
      → MatchOption r ((k : ℕ) → s.start ≤ k → k < s.end → No k) Yes
  mapped_range None h keeps passed found = λ k a b.
      let p = h.0 in
      let start : p.from.start ≡ s.start = ap (λ (t : Range ℕ). t.start) h.1 in
      let end : p.from.end ≡ s.end = ap (λ (t : Range ℕ). t.end) h.1 in
      let up = range_runs p p.seen in
      let e : p.from.start + (k - p.from.start) ≡ k = omega arith in
      passed k (at_number (λ x. Called g f (x, tt) None f) (p.at (k - p.from.start)) k (up.3 (k - p.from.start) (omega (arith, up.1 h.2.0)) ∙ ap Some e) (h.2.1 keeps (k - p.from.start)))
  mapped_range (Some y) h keeps passed found =
      let p = h.0 in
      some_at (λ x. Called g f (x, tt) (Some y) f) (Yes y) (p.at h.2.0) (h.2.3 keeps).0 (λ x k. found x y k)

-- ---- reads and writes

-- the word of the split writes of a read
pub split_word : (p q f : ℕ) (rmw fre coe' : Rel) (a : ℕ) → bit p ≡ rmw a → bit f ≡ fre a → bit q ≡ image coe' (bit f) → bit (bit_and p q) ≡ (λ v. rmw a v && seq fre coe' a v)
unfolding seq image
split_word p q f rmw fre coe' a ep ef eq = grind (arith, nat_tests, bit-bit_and)

-- the lowest event of a word, by the set that it holds
pub lowest_of : (o : Option ℕ) (w : ℕ) (s : Set) → bit w ≡ s → MatchOption o ((x : ℕ) → bit w x ≡ false) (λ c. Lowest (bit w) c) → MatchOption o ((x : ℕ) → s x ≡ false) (λ c. (c < 64) × (s c ≡ true))
lowest_of None w s e h = λ x. sym (ap (λ (t : Set). t x) e) ∙ h x
lowest_of (Some c) w s e h = (h.room, sym (ap (λ (t : Set). t c) e) ∙ h.member)

-- an event between, from the word of both rows
module _ (f g : ℕ) (fre coe' back : Rel) (a v : ℕ) (ef : bit f ≡ fre a) (eb : back ≡ inverse coe') (eg : bit g ≡ back v) where
  pub both_rows : (c : ℕ) → bit (bit_and f g) c ≡ (fre a c && coe' c v)
  unfolding inverse
  both_rows c = grind (arith, nat_tests, bit-bit_and)

  pub some_between : seq fre coe' a v ≡ true → ((x : ℕ) → bit (bit_and f g) x ≡ false) → ⊥
  unfolding seq
  some_between h none = let e = any_some 64 (λ c. fre a c && coe' c v) h in both_ways _ (sym (both_rows e.0) ∙ none e.0) e.2

  pub is_between : (c : ℕ) → Lowest (bit (bit_and f g)) c → (fre a c ≡ true) × (coe' c v ≡ true)
  is_between c h = grind (arith, nat_tests, both_rows)

-- the pairs of the rule, in the relations of the code
module _ (m : Model) where
  abbrev pub split : Rel
  split a v = rel m.base.rmw a v && seq (rel m.fre) (rel m.«coe») a v

  pub split_is : (a v : ℕ) → broken_rmw (held m) a v ≡ split a v
  unfolding broken_rmw inter
  split_is a v = grind (arith, nat_tests)

  -- a round that is found
  pub round_is : (a c v : ℕ) → split a v ≡ true → rel m.fre a c ≡ true → rel m.«coe» c v ≡ true → IsAtRound (held m) a c v
  round_is a c v h p q = grind (arith, nat_tests)

  -- no read has one
  none_splits : (n : ℕ) → size m.base.rmw ≤ n → ((a v : ℕ) → a < n → broken_rmw (held m) a v ≡ false) → At (held m)
  none_splits n all none a v h = ⊎_elim (λ l. both_ways _ (none a v l) h) (λ l. both_ways _ (past l) (sym (split_is a v) ∙ h)) (cases_lt a n)
    where
      past : n ≤ a → split a v ≡ false
      past l = and_left (rel m.base.rmw a v) _ (rel_past m.base.rmw a v (omega arith))

  -- what a search of the reads found
  pub first_split : (n : ℕ) (r : Option SplitRmw) → size m.base.rmw ≤ n
      → MatchOption r ((a : ℕ) → 0 ≤ a → a < n → (v : ℕ) → broken_rmw (held m) a v ≡ false) (λ t. broken_rmw (held m) t.read t.write ≡ true) → Decides (not (is_some r)) (At (held m))
  first_split n None all none = (λ _. none_splits n all (λ a v l. none a (omega arith) l v), λ _. refl)
  first_split n (Some t) all h = (λ e. absurd (false≢true e), λ kept. absurd (kept t.read t.write h))
