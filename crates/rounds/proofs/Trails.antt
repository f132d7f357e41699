-- A round traced from its start, one best step after another.
use Rattle.std.proofs.lemmas.Bool.Decides.{nat_tests}
use Rattle.std.proofs.Common.{◌≡◌, ℕ, suc, ◌+◌, ◌-◌, ◌*◌, ◌<◌, ◌≤◌, max, true, cond, ltb, List, length, get_or, take, set, sym, refl, ap, ◌∙◌, ap₂, ⊎_elim, add-one, arith}
use Rattle.std.proofs.lemmas.List.{get_or-set_same, get_or-set_other, length-set, get_or-take, length-take-le}
use Rattle.std.proofs.lemmas.Bool.{cond-true, cond-false, lt-ltb, le-ltb, cases_lt}
use Rattle.rows.specs.Row.{Set, count, tick}
use Rattle.relations.specs.Algebra.{Rel}
use Rattle.grace.specs.Sheet.{most}
use Rattle.rounds.specs.declared.kinds.Mark.{Mark}
use Rattle.rounds.specs.declared.kinds.Mark.TheVariants.{Period, Section}
use Rattle.rounds.specs.Layers.{raised, further, tally, BestStep}
use Rattle.rounds.specs.Marks.{by, periods, sections}
use Rattle.rounds.specs.Rounds.{IsRound}
use Rattle.rounds.proofs.Counts.{is_period, at_periods, count_more, count_none, count_same, periods_count, marks_total}
use Rattle.rounds.proofs.Layering.{tally_next}
use Rattle.rounds.proofs.Running.{Run}

-- the events traced so far, and then the one that the trail is at
unfoldable pub path : List ℕ → ℕ → ℕ → ℕ → ℕ
path es i at j = cond (ltb j i) (get_or es j 0) at

path_in : (es : List ℕ) (i at j : ℕ) → j < i → path es i at j ≡ get_or es j 0
unfolding path
path_in es i at j l = cond-true (ltb j i) (get_or es j 0) at (lt-ltb j i l)

path_out : (es : List ℕ) (i at j : ℕ) → i ≤ j → path es i at j ≡ at
unfolding path
path_out es i at j l = cond-false (ltb j i) (get_or es j 0) at (le-ltb j i l)

-- i of k steps are traced
pub record Trail (p s : Rel) (es : List ℕ) (ms : List Mark) (i k start at : ℕ) : Type 0 where
  pub long : length es ≡ 64
  pub long_marks : length ms ≡ 64
  pub room : at < 64
  pub run : Run p s (λ j. get_or ms j Period) (path es i at) i
  pub head : path es i at 0 ≡ start
  pub some : 1 ≤ tally p s (k - i) start at
  -- the period steps so far and those that are left
  pub sum : count i (at_periods ms) + tally p s (k - i) start at ≡ tally p s k start start

pub trail_first : (p s : Rel) (es : List ℕ) (ms : List Mark) (k start : ℕ) → length es ≡ 64 → length ms ≡ 64 → start < 64 → 1 ≤ tally p s k start start → Trail p s es ms 0 k start start
trail_first p s es ms k start e m l some = grind (arith, nat_tests, path_out, count_none, at_periods)

-- there is a next step
module _ (p s : Rel) (es : List ℕ) (ms : List Mark) (i k start at : ℕ) (l : i < k) (t : Trail p s es ms i k start at)
    (up down : Set) (v : ℕ → ℕ) (u : up ≡ p at) (d : down ≡ s at) (w : v ≡ tally p s (k - 1 - i) start) where
  left : max (raised (most 64 up v)) (most 64 down v) ≡ tally p s (k - i) start at
  unfolding further
  left =
      let n : suc (k - 1 - i) ≡ k - i = omega arith in
      rw (u, d) (ap (λ (f : ℕ → ℕ). f at) (tally_next p s (k - 1 - i) start v w) ∙ ap (λ (j : ℕ). tally p s j start at) n)

  pub trail_goes : 1 ≤ max (raised (most 64 up v)) (most 64 down v)
  trail_goes = omega (arith, left, t.some)

  -- and it is taken
  module _ (m : Mark) (c : ℕ) (few : k ≤ 64) (o : BestStep up down v m c) where
    one : (n : Mark) → by 1 0 n ≡ tick (is_period n)
    one Period = refl
    one Section = refl

    taken : by p s m at c ≡ true
    taken = grind (arith, nat_tests)

    events_in : (j : ℕ) → j < i → get_or (set es i at) j 0 ≡ get_or es j 0
    events_in j h = get_or-set_other es i j at 0 (λ z. omega arith)

    marks_in : (j : ℕ) → j < i → get_or (set ms i m) j Period ≡ get_or ms j Period
    marks_in j h = get_or-set_other ms i j m Period (λ z. omega arith)

    mark_new : get_or (set ms i m) i Period ≡ m
    mark_new = get_or-set_same ms i m Period (omega (arith, t.long_marks))

    path_new : (j : ℕ) → j ≤ i → path (set es i at) (i + 1) c j ≡ path es i at j
    path_new j h =
        path_in (set es i at) (i + 1) c j (omega arith)
        ∙ ⊎_elim (λ z. events_in j z ∙ sym (path_in es i at j z))
        (λ z. let e : j ≡ i = omega arith in ap (λ (n : ℕ). get_or (set es i at) n 0) e ∙ get_or-set_same es i at 0 (omega (arith, t.long)) ∙ sym (path_out es i at j z)) (cases_lt j i)

    run_new : Run p s (λ j. get_or (set ms i m) j Period) (path (set es i at) (i + 1) c) (i + 1)
    run_new j h = grind (arith, nat_tests, path_new, path_out, mark_new, taken, marks_in)

    sum_new : count (i + 1) (at_periods (set ms i m)) + tally p s (k - (i + 1)) start c ≡ tally p s k start start
    sum_new =
        let n : k - (i + 1) ≡ k - 1 - i = omega arith in
        let rest : tally p s (k - (i + 1)) start c ≡ v c = ap (λ (j : ℕ). tally p s j start c) n ∙ sym (ap (λ (f : ℕ → ℕ). f c) w) in
        let more : count (i + 1) (at_periods (set ms i m)) ≡ tick (is_period m) + count i (at_periods ms) =
        ap (λ (j : ℕ). count j (at_periods (set ms i m))) (add-one i) ∙ count_more i (at_periods (set ms i m))
        ∙ ap₂ ◌+◌ (ap (λ (y : Mark). tick (is_period y)) mark_new) (count_same i (at_periods (set ms i m)) (at_periods ms) (λ j h. ap is_period (marks_in j h))) in
        omega (arith, rest, more, one m, o.best, left, t.sum)

    pub trail_more : Trail p s (set es i at) (set ms i m) (i + 1) k start c
    trail_more = grind (arith, nat_tests, length-set, run_new, path_new, sum_new)

-- at the end of the steps it is a round
module _ (p s : Rel) (es : List ℕ) (ms : List Mark) (i k start at : ℕ) (pos : 0 < k) (few : k ≤ 64) (end : i ≡ k) (t : Trail p s es ms i k start at)
    (closes : k + 2 ≤ 2 * tally p s k start start) where
  home : (tally p s 0 start at ≡ 1) × (at ≡ start)
  unfolding tally
  home = grind (arith, nat_tests)

  size : length (take k es) ≡ k
  size = length-take-le k es (omega (arith, t.long))

  size_marks : length (take k ms) ≡ k
  size_marks = length-take-le k ms (omega (arith, t.long_marks))

  event_at : (j : ℕ) → j < k → get_or (take k es) j 0 ≡ path es i at j
  event_at j l = grind (arith, nat_tests, get_or-take, path_in)

  mark_at : (j : ℕ) → j < k → get_or (take k ms) j Period ≡ get_or ms j Period
  mark_at j l = get_or-take k ms j Period l

  pub trail_first_event : get_or (take k es) 0 0 ≡ start
  trail_first_event = event_at 0 pos ∙ t.head

  enough : sections (take k ms) ≤ periods (take k ms)
  enough =
      let same : count k (at_periods (take k ms)) ≡ count i (at_periods ms) =
      count_same k (at_periods (take k ms)) (at_periods ms) (λ j l. ap is_period (mark_at j l)) ∙ ap (λ (n : ℕ). count n (at_periods ms)) (sym end) in
      let all = periods_count (take k ms) ∙ ap (λ (n : ℕ). count n (at_periods (take k ms))) size_marks in
      let n : k - i ≡ 0 = omega arith in
      omega (arith, same, all, marks_total (take k ms), size_marks, t.sum, home.0, ap (λ (j : ℕ). tally p s j start at) n, closes)

  pub trail_size : length (take k es) ≡ k
  trail_size = size

  pub trail_round : IsRound p s (take k es) (take k ms)
  trail_round = record {
    some = omega (arith, size);
    marked = size_marks ∙ sym size;
    steps = λ j l.
        rw (mark_at j (omega (arith, size)), event_at j (omega (arith, size)), event_at (suc j) (omega (arith, size))) (t.run j (omega (arith, size)));
    back =
        let last : length (take k es) - 1 ≡ k - 1 = omega (arith, size) in
        let n : suc (k - 1) ≡ i = omega arith in
        let to : path es i at (suc (k - 1)) ≡ get_or (take k es) 0 0 = path_out es i at (suc (k - 1)) (omega arith) ∙ home.1 ∙ sym trail_first_event in
        rw (last, mark_at (k - 1) (omega arith), event_at (k - 1) (omega arith), ← to) (t.run (k - 1) (omega arith));
    enough = enough;
  }
