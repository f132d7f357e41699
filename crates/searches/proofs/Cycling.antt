-- Cycles as closed walks, and how one is traced.
use Rattle.std.proofs.Common.{◌≡◌, ℕ, suc, ◌+◌, ◌-◌, ◌<◌, ◌≤◌, Bool, true, false, cond, ◌&&◌, ltb, List, length, get_or, take, set, Option, None, Some, MatchOption, is_some, sym, ap, ◌∙◌, subst, ⊎_elim, add-one, arith}
use Rattle.std.proofs.lemmas.List.{length-take-le, get_or-take, get_or-set_same, get_or-set_other, length-set}
use Rattle.std.proofs.lemmas.Bool.{cases_lt, cases_eq, cases_order, both_ways}
use Rattle.std.proofs.lemmas.Bool.Decides.{nat_tests}
use Rattle.rows.specs.Row.{Set, bit, adding}
use Rattle.rows.proofs.Bits.{bit_zero}
use Rattle.relations.specs.Algebra.{Rel, any, identity, inverse, seq, image}
use Rattle.relations.specs.Chains.{Acyclic}
use Rattle.relations.specs.Table.{On}
use Rattle.relations.specs.View.{rel, size}
use Rattle.relations.specs.declared.kinds.Relation.{Relation}
use Rattle.relations.proofs.Ranges.{rel_past}
use Rattle.searches.specs.Cycles.{IsCycle, IsLowestLoop, IsShortest}
use Rattle.searches.specs.Walks.{walks, reaching}
use Rattle.searches.proofs.Walking.{walk_append, walk_chain, one_walk, Run, run_walk}

-- ---- the lowest event that is related to itself

pub lowest_from : (x : Relation) (n : ℕ) (r : Option ℕ) → n ≡ size x
    → MatchOption r ((a : ℕ) → 0 ≤ a → a < n → rel x a a ≡ false) (λ a. (0 ≤ a) × (a < n) × (rel x a a ≡ true) × ((b : ℕ) → 0 ≤ b → b < a → rel x b b ≡ false))
    → MatchOption r ((a : ℕ) → rel x a a ≡ false) (λ a. IsLowestLoop (rel x) a)
lowest_from x n None e none = grind (arith, nat_tests, rel_past)
lowest_from x n (Some a) e found = grind (arith, nat_tests)

-- where a search for one found none
pub no_loop : {P : Type 0} (Q : ℕ → Type 0) (r : Option ℕ) (t : Bool) → t ≡ is_some r → t ≡ false → MatchOption r P Q → P
no_loop Q None t e f none = none
no_loop Q (Some a) t e f found = absurd (both_ways t f e)

-- ---- the events from which one is reached

-- in no steps
reaching_none : (w b : ℕ) (r : Rel) → b < 64 → bit w ≡ adding b (bit 0) → bit w ≡ reaching 0 r b
unfolding reaching walks identity adding
reaching_none w b r h e = grind (arith, nat_tests, bit_zero)

-- in one more
reaching_more : (k b : ℕ) (r : Rel) → image (inverse r) (reaching k r b) ≡ reaching (suc k) r b
unfolding image inverse reaching walks seq
reaching_more k b r = grind (arith, nat_tests)

-- the sets below j are known
pub record Ways (ws : List ℕ) (j : ℕ) (r : Rel) (b : ℕ) : Type 0 where
  pub long : length ws ≡ 64
  pub each : (i : ℕ) → i < j → bit (get_or ws i 0) ≡ reaching i r b

pub ways_first : (ws : List ℕ) (w b : ℕ) (r : Rel) → length ws ≡ 64 → b < 64 → bit w ≡ adding b (bit 0) → Ways (set ws 0 w) 1 r b
ways_first ws w b r long h e = grind (arith, nat_tests, length-set, get_or-set_same, reaching_none)

pub ways_more : (ws : List ℕ) (j w b : ℕ) (r q : Rel) → 0 < j → j < 64 → q ≡ inverse r → bit w ≡ image q (bit (get_or ws (j - 1) 0))
    → Ways ws j r b → Ways (set ws j w) (j + 1) r b
ways_more ws j w b r q pos h turned e ways = grind (arith, nat_tests, length-set, reaching_more, get_or-set_same, get_or-set_other)

-- ---- a cycle of k steps from start, traced as far as the event before i

pub record Trail (r : Rel) (es : List ℕ) (i k start : ℕ) : Type 0 where
  pub long : length es ≡ 64
  pub head : get_or es 0 0 ≡ start
  pub steps : (j : ℕ) → suc j < i → r (get_or es j 0) (get_or es (suc j) 0) ≡ true
  pub left : walks (suc (k - i)) r (get_or es (i - 1) 0) start ≡ true

pub trail_first : (r : Rel) (es : List ℕ) (k start : ℕ) → length es ≡ 64 → 0 < k → walks k r start start ≡ true → Trail r (set es 0 start) 1 k start
trail_first r es k start long pos closed = grind (arith, nat_tests, get_or-set_same, length-set)

-- there is a next event
pub trail_goes : (r : Rel) (es ws : List ℕ) (i k start v : ℕ) → 0 < i → i < k → Trail r es i k start → ((j : ℕ) → j < k → bit (get_or ws j 0) ≡ reaching j r start) → bit v ≡ r (get_or es (i - 1) 0)
    → any 64 (λ c. bit v c && bit (get_or ws (k - i) 0) c) ≡ true
unfolding walks seq reaching
trail_goes r es ws i k start v pos l t ways e = rw (e, ways (k - i) (omega arith)) t.left

-- and one on from which start is reached in the steps that are left
pub trail_more : (r : Rel) (es ws : List ℕ) (i k start v c : ℕ) → 0 < i → i < k → k ≤ 64 → Trail r es i k start → ((j : ℕ) → j < k → bit (get_or ws j 0) ≡ reaching j r start) → bit v ≡ r (get_or es (i - 1) 0)
    → bit v c ≡ true → bit (get_or ws (k - i) 0) c ≡ true → Trail r (set es i c) (i + 1) k start
unfolding reaching
trail_more r es ws i k start v c pos l few t ways e here onward = record {
  long = length-set es i c ∙ t.long;
  head = get_or-set_other es i 0 c 0 (λ z. omega arith) ∙ t.head;
  steps = steps;
  left = left;
}
  where
    new : get_or (set es i c) i 0 ≡ c
    new = get_or-set_same es i c 0 (omega (arith, t.long))

    old : (j : ℕ) → j < i → get_or (set es i c) j 0 ≡ get_or es j 0
    old j m = get_or-set_other es i j c 0 (λ z. omega arith)

    taken : r (get_or es (i - 1) 0) c ≡ true
    taken = sym (ap (λ (s : Set). s c) e) ∙ here

    steps : (j : ℕ) → suc j < i + 1 → r (get_or (set es i c) j 0) (get_or (set es i c) (suc j) 0) ≡ true
    steps j m = ⊎_elim last before (cases_eq (suc j) i)
      where
        last : suc j ≡ i → r (get_or (set es i c) j 0) (get_or (set es i c) (suc j) 0) ≡ true
        last z =
            let p : i - 1 ≡ j = omega arith in
            rw (old j (omega arith), z, new) (subst (λ (x : ℕ). r (get_or es x 0) c ≡ true) p taken)

        before : (suc j ≡ i → ⊥) → r (get_or (set es i c) j 0) (get_or (set es i c) (suc j) 0) ≡ true
        before z = rw (old j (omega arith), old (suc j) (omega arith)) (t.steps j (omega arith))

    left : walks (suc (k - (i + 1))) r (get_or (set es i c) (i + 1 - 1) 0) start ≡ true
    left =
        let n : k - i ≡ suc (k - (i + 1)) = omega arith in
        let p : i + 1 - 1 ≡ i = omega arith in
        rw (p, new) (subst (λ (x : ℕ). walks x r c start ≡ true) n (sym (ap (λ (s : Set). s c) (ways (k - i) (omega arith))) ∙ onward))

-- at the end of the steps it is a cycle
pub trail_cycle : (r : Rel) (es : List ℕ) (i k start : ℕ) → 0 < k → k ≤ 64 → i ≡ k → Trail r es i k start
    → IsCycle r (take k es) × (length (take k es) ≡ k) × (get_or (take k es) 0 0 ≡ start)
trail_cycle r es i k start pos few end t = (record { some = omega (arith, size); steps = steps; back = back }, size, get_or-take k es 0 0 pos ∙ t.head)
  where
    size : length (take k es) ≡ k
    size = length-take-le k es (omega (arith, t.long))

    steps : (j : ℕ) → suc j < length (take k es) → r (get_or (take k es) j 0) (get_or (take k es) (suc j) 0) ≡ true
    steps j l = rw (get_or-take k es j 0 (omega (arith, size)), get_or-take k es (suc j) 0 (omega (arith, size))) (t.steps j (omega (arith, size)))

    back : r (get_or (take k es) (length (take k es) - 1) 0) (get_or (take k es) 0 0) ≡ true
    back =
        let p : length (take k es) - 1 ≡ i - 1 = omega (arith, size) in
        let n : suc (k - i) ≡ 1 = omega arith in
        rw (p, get_or-take k es (i - 1) 0 (omega arith), get_or-take k es 0 0 pos, t.head)
        (one_walk r (get_or es (i - 1) 0) start (subst (λ (x : ℕ). walks x r (get_or es (i - 1) 0) start ≡ true) n t.left))

-- ---- a cycle as a closed walk

-- the events of a cycle, and the first again
around : List ℕ → ℕ → ℕ
around es i = cond (ltb i (length es)) (get_or es i 0) (get_or es 0 0)

module _ (r : Rel) (es : List ℕ) (on : On 64 r) (c : IsCycle r es) where
  around_in : (i : ℕ) → i < length es → around es i ≡ get_or es i 0
  unfolding around
  around_in i l = grind (arith, nat_tests)

  around_end : around es (length es) ≡ get_or es 0 0
  unfolding around
  around_end = grind (arith, nat_tests)

  around_run : Run r (around es) (length es)
  around_run i l = grind (arith, nat_tests, around, around_in, around_end)

  small : (i : ℕ) → i < length es → get_or es i 0 < 64
  small i l = grind (arith, nat_tests)

  -- from one event of the cycle to a later one, and to the first again
  stretch : (i j : ℕ) → i ≤ j → j < length es → walks (j - i) r (get_or es i 0) (get_or es j 0) ≡ true
  stretch i j le l =
      let n : i + (j - i) ≡ j = omega arith in
      subst (λ (x : ℕ). walks (j - i) r x (get_or es j 0) ≡ true) (around_in i (omega arith))
      (subst (λ (x : ℕ). walks (j - i) r (around es i) x ≡ true) (ap (around es) n ∙ around_in j l)
      (run_walk (j - i) i (length es) r (around es) on around_run (rw (around_in i (omega arith)) (small i (omega arith))) (omega arith)))

  home : (i : ℕ) → i < length es → walks (length es - i) r (get_or es i 0) (get_or es 0 0) ≡ true
  home i l =
      let n : i + (length es - i) ≡ length es = omega arith in
      subst (λ (x : ℕ). walks (length es - i) r x (get_or es 0 0) ≡ true) (around_in i l)
      (subst (λ (x : ℕ). walks (length es - i) r (around es i) x ≡ true) (ap (around es) n ∙ around_end)
      (run_walk (length es - i) i (length es) r (around es) on around_run (rw (around_in i l) (small i l)) (omega arith)))

  -- each event of the cycle is on a closed walk of as many steps
  pub cycle_closed : (i : ℕ) → i < length es → walks (length es) r (get_or es i 0) (get_or es i 0) ≡ true
  cycle_closed i l =
      let n : (length es - i) + (i - 0) ≡ length es = omega arith in
      subst (λ (x : ℕ). walks x r (get_or es i 0) (get_or es i 0) ≡ true) n
      (walk_append (length es - i) (i - 0) r (get_or es i 0) (get_or es 0 0) (get_or es i 0) (home i l) (stretch 0 i (omega arith) l))

-- a cycle of k steps is a shortest one from its lowest event, if no closed walk is shorter and none of its length begins lower
pub shortest_from : (k : ℕ) (r : Rel) (es : List ℕ) → On 64 r → IsCycle r es → length es ≡ k
    → ((m b : ℕ) → 1 ≤ m → m < k → walks m r b b ≡ false) → ((b : ℕ) → b < get_or es 0 0 → walks k r b b ≡ false) → IsShortest r es
shortest_from k r es on c size none first = record { cycle = c; lowest = lowest; once = once; least = least }
  where
    closed : (i : ℕ) → i < length es → walks k r (get_or es i 0) (get_or es i 0) ≡ true
    closed i l = subst (λ (x : ℕ). walks x r (get_or es i 0) (get_or es i 0) ≡ true) size (cycle_closed r es on c i l)

    lowest : (i : ℕ) → i < length es → get_or es 0 0 ≤ get_or es i 0
    lowest i l = ⊎_elim (λ h. absurd (both_ways _ (first (get_or es i 0) h) (closed i l))) (λ h. h) (cases_lt (get_or es i 0) (get_or es 0 0))

    -- two places of one event would leave a shorter closed walk between them
    apart : (i j : ℕ) → i < j → j < length es → get_or es i 0 ≡ get_or es j 0 → ⊥
    apart i j h l e =
        both_ways _ (none (j - i) (get_or es i 0) (omega arith) (omega arith))
        (subst (λ (x : ℕ). walks (j - i) r (get_or es i 0) x ≡ true) (sym e) (stretch r es on c i j (omega arith) l))

    once : (i j : ℕ) → i < length es → j < length es → get_or es i 0 ≡ get_or es j 0 → i ≡ j
    once i j h l e = ⊎_elim (λ z. z) (λ z. ⊎_elim (λ lt. absurd (apart i j lt l e)) (λ gt. absurd (apart j i gt h (sym e))) z) (cases_order i j)

    least : (fs : List ℕ) → IsCycle r fs → length es ≤ length fs
    least fs d = ⊎_elim (λ h. absurd (shorter h)) (λ h. h) (cases_lt (length fs) (length es))
      where
        shorter : length fs < length es → ⊥
        shorter h = both_ways _ (none (length fs) (get_or fs 0 0) d.some (omega arith)) (cycle_closed r fs on d 0 d.some)

-- ---- and so the relation is not acyclic
pub cycle_comes_back : (r : Rel) (es : List ℕ) → On 64 r → IsCycle r es → Acyclic r → ⊥
cycle_comes_back r es on c none =
    let n : length es ≡ suc (length es - 1) = omega (arith, c.some) in
    none (get_or es 0 0) (walk_chain (length es - 1) r (get_or es 0 0) (get_or es 0 0)
    (subst (λ (x : ℕ). walks x r (get_or es 0 0) (get_or es 0 0) ≡ true) n (cycle_closed r es on c 0 c.some)))

-- ---- the powers of a relation, one after another

module _ (p r : Rel) (k : ℕ) (power : p ≡ walks k r) where
  pub power_at : (a b : ℕ) (t : Bool) → p a b ≡ t → walks k r a b ≡ t
  power_at a b t h = sym (ap (λ (q : Rel). q a b) power) ∙ h

  pub power_more : (q : Rel) → q ≡ seq r p → q ≡ walks (k + 1) r
  unfolding walks
  power_more q e = rw (add-one k, sym power) e

  pub power_none : ((m b : ℕ) → 1 ≤ m → m < k → walks m r b b ≡ false) → ((b : ℕ) → p b b ≡ false) → (m b : ℕ) → 1 ≤ m → m < k + 1 → walks m r b b ≡ false
  power_none none here m b some l = ⊎_elim (λ z. rw z (power_at b b false (here b))) (λ z. none m b some (omega arith)) (cases_eq m k)
