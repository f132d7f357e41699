-- Rounds as closed walks: rotated, cut where an event stands twice, and so the shortest.
use Rattle.std.proofs.lemmas.Bool.Decides.{nat_tests}
use Rattle.std.proofs.Common.{◌≡◌, ℕ, zero, suc, ◌+◌, ◌-◌, ◌*◌, ◌<◌, ◌≤◌, true, cond, ltb, List, length, get_or, sym, refl, ap, ◌∙◌, subst, subst₂, ⊎_elim, arith}
use Rattle.std.proofs.lemmas.Bool.{cases_lt, cases_order}
use Rattle.rows.specs.Row.{count, tick}
use Rattle.relations.specs.Algebra.{Rel}
use Rattle.grace.specs.Scene.{Scene, Sound}
use Rattle.grace.specs.Law.{Walk, Walk.here, Walk.by_period, Walk.by_section, Rcu}
use Rattle.rounds.specs.declared.kinds.Mark.{Mark}
use Rattle.rounds.specs.declared.kinds.Mark.TheVariants.{Period, Section}
use Rattle.rounds.specs.Layers.{tally}
use Rattle.rounds.specs.Marks.{by, period_step, section_step}
use Rattle.rounds.specs.Rounds.{IsRcuRound, IsShortestRound}
use Rattle.rounds.proofs.Counts.{is_period, at_periods, count_more, count_none, periods_count, marks_total}
use Rattle.rounds.proofs.Layering.{Open, open_none, walk_tally}

-- the first n steps of a sequence of events, each of its mark
abbrev pub Run : Rel → Rel → (ℕ → Mark) → (ℕ → ℕ) → ℕ → Type 0
Run p s m f n = (i : ℕ) → i < n → by p s (m i) (f i) (f (suc i)) ≡ true

-- the events of a round, and the first again
unfoldable pub around : List ℕ → ℕ → ℕ
around es i = cond (ltb i (length es)) (get_or es i 0) (get_or es 0 0)

module _ (x : Scene) (sound : Sound x) where
  -- steps before a walk
  pub walk_up : {p q a b c : ℕ} → period_step x a b ≡ true → Walk x x.strong p q b c → Walk x x.strong (suc p) q a c
  unfolding period_step
  walk_up s t = by_period s t

  pub walk_down : {p q a b c : ℕ} → section_step x a b ≡ true → Walk x x.strong p q b c → Walk x x.strong p (suc q) a c
  unfolding section_step
  walk_down s t = by_section s t

  -- one after the other
  joined : {p q m n u v a b c : ℕ} → Walk x x.strong p q a b → Walk x x.strong m n b c → u ≡ p + m → v ≡ q + n → Walk x x.strong u v a c
  joined {a = a} {c = c} here w e f = grind (arith, nat_tests)
  joined {v = v} {a = a} {c = c} (by_period s t) w e f = subst (λ u. Walk x x.strong u v a c) (omega arith) (by_period s (joined t w refl f))
  joined {u = u} {a = a} {c = c} (by_section s t) w e f = subst (λ v. Walk x x.strong u v a c) (omega arith) (by_section s (joined t w e refl))

  -- any stretch of a run is a walk, with as many period steps as it has marks of them
  module _ (m : ℕ → Mark) (f : ℕ → ℕ) (n : ℕ) (run : Run (period_step x) (section_step x) m f n) where
    pub stretch : (d i : ℕ) → i + d ≤ n → (p : ℕ) × (q : ℕ) × Walk x x.strong p q (f i) (f (i + d)) × (p + q ≡ d) × (p + count i (λ j. is_period (m j)) ≡ count (i + d) (λ j. is_period (m j)))
    stretch zero i l =
        let e : i + 0 ≡ i = omega arith in
        (0, 0, subst (λ (k : ℕ). Walk x x.strong 0 0 (f i) (f k)) (sym e) here, refl, omega (arith, ap (λ (k : ℕ). count k (λ j. is_period (m j))) e))
    stretch (suc d) i l = go (m i) refl (stretch d (suc i) (omega arith))
      where
        far : suc i + d ≡ i + suc d
        far = omega arith

        go : (k : Mark) → m i ≡ k
            → ((p : ℕ) × (q : ℕ) × Walk x x.strong p q (f (suc i)) (f (suc i + d)) × (p + q ≡ d) × (p + count (suc i) (λ j. is_period (m j)) ≡ count (suc i + d) (λ j. is_period (m j))))
            → (p : ℕ) × (q : ℕ) × Walk x x.strong p q (f i) (f (i + suc d)) × (p + q ≡ suc d) × (p + count i (λ j. is_period (m j)) ≡ count (i + suc d) (λ j. is_period (m j)))
        go Period e r =
            let more : count (suc i) (λ j. is_period (m j)) ≡ 1 + count i (λ j. is_period (m j)) =
            count_more i (λ j. is_period (m j)) ∙ ap (λ (k : Mark). tick (is_period k) + count i (λ j. is_period (m j))) e in
            let one : by (period_step x) (section_step x) Period (f i) (f (suc i)) ≡ true = subst (λ (k : Mark). by (period_step x) (section_step x) k (f i) (f (suc i)) ≡ true) e (run i (omega arith)) in (
              suc r.0,
              r.1,
              subst (λ (k : ℕ). Walk x x.strong (suc r.0) r.1 (f i) (f k)) far (walk_up one r.2),
              omega (arith, r.3),
              omega (arith, r.4, ap (λ (k : ℕ). count k (λ j. is_period (m j))) far),
            )
        go Section e r =
            let more : count (suc i) (λ j. is_period (m j)) ≡ 0 + count i (λ j. is_period (m j)) =
            count_more i (λ j. is_period (m j)) ∙ ap (λ (k : Mark). tick (is_period k) + count i (λ j. is_period (m j))) e in
            let one : by (period_step x) (section_step x) Section (f i) (f (suc i)) ≡ true = subst (λ (k : Mark). by (period_step x) (section_step x) k (f i) (f (suc i)) ≡ true) e (run i (omega arith)) in (
              r.0,
              suc r.1,
              subst (λ (k : ℕ). Walk x x.strong r.0 (suc r.1) (f i) (f k)) far (walk_down one r.2),
              omega (arith, r.3),
              omega (arith, r.4, ap (λ (k : ℕ). count k (λ j. is_period (m j))) far),
            )

  -- ---- a round

  module _ (es : List ℕ) (ms : List Mark) (c : IsRcuRound x es ms) where
    around_in : (i : ℕ) → i < length es → around es i ≡ get_or es i 0
    unfolding around
    around_in i l = grind (arith, nat_tests)

    around_end : around es (length es) ≡ get_or es 0 0
    unfolding around
    around_end = grind (arith, nat_tests)

    around_run : Run (period_step x) (section_step x) (λ i. get_or ms i Period) (around es) (length es)
    around_run i l = grind (arith, nat_tests, around_in, around_end)

    -- its period steps, and that they are at least half
    all : ℕ
    all = count (length es) (at_periods ms)

    half : length es ≤ 2 * all
    unfolding all
    half = grind (arith, nat_tests, periods_count, marks_total, at_periods)

    part : (d i j : ℕ) → i + d ≡ j → j ≤ length es
        → (p : ℕ) × (q : ℕ) × Walk x x.strong p q (around es i) (around es j) × (p + q ≡ d) × (p + count i (at_periods ms) ≡ count j (at_periods ms))
    part d i j e l = subst (λ (k : ℕ). (p : ℕ) × (q : ℕ) × Walk x x.strong p q (around es i) (around es k) × (p + q ≡ d) × (p + count i (at_periods ms) ≡ count k (at_periods ms))) e
        (stretch (λ i. get_or ms i Period) (around es) (length es) around_run d i (omega arith))

    -- from a later place round to an earlier one
    past : (i j : ℕ) → i ≤ j → j < length es
        → (p : ℕ) × (q : ℕ) × Walk x x.strong p q (get_or es j 0) (get_or es i 0) × (p + q ≡ (length es - j) + i) × (p + count j (at_periods ms) ≡ all + count i (at_periods ms))
    unfolding all
    past i j le l =
        let f = part (length es - j) j (length es) (omega arith) (omega arith) in
        let g = part i 0 i (omega arith) (omega arith) in
        let first : around es 0 ≡ get_or es 0 0 = around_in 0 c.some in
        let w = joined f.2 (subst (λ (k : ℕ). Walk x x.strong g.0 g.1 k (around es i)) (first ∙ sym around_end) g.2) refl refl in (
          f.0 + g.0,
          f.1 + g.1,
          subst₂ (λ a b. Walk x x.strong (f.0 + g.0) (f.1 + g.1) a b) (around_in j l) (around_in i (omega arith)) w,
          omega (arith, f.3, g.3),
          omega (arith, f.4, g.4, count_none (at_periods ms)),
        )

    between : (i j : ℕ) → i ≤ j → j < length es
        → (p : ℕ) × (q : ℕ) × Walk x x.strong p q (get_or es i 0) (get_or es j 0) × (p + q ≡ j - i) × (p + count i (at_periods ms) ≡ count j (at_periods ms))
    between i j le l =
        let f = part (j - i) i j (omega arith) (omega arith) in
        (f.0, f.1, subst₂ (λ a b. Walk x x.strong f.0 f.1 a b) (around_in i (omega arith)) (around_in j l) f.2, f.3, f.4)

    -- each event of the round is on a closed walk of as many steps
    pub round_closed : (i : ℕ) → i < length es → (p : ℕ) × (q : ℕ) × Walk x x.strong p q (get_or es i 0) (get_or es i 0) × (p + q ≡ length es) × (q ≤ p)
    round_closed i l = let f = past i i (omega arith) l in (f.0, f.1, f.2, omega (arith, f.3), omega (arith, f.3, f.4, half))

    -- so Rcu is broken
    pub round_breaks : Rcu x x.strong → ⊥
    round_breaks rcu = let f = round_closed 0 c.some in rcu f.0 f.1 (get_or es 0 0) f.2 (omega (arith, f.3, c.some)) f.4

    -- where no fewer steps come back, no event stands twice
    pub round_apart : ((k : ℕ) → 1 ≤ k → k < length es → Open x sound k) → (i j : ℕ) → i < j → j < length es → get_or es i 0 ≡ get_or es j 0 → ⊥
    round_apart none i j lt l e = ⊎_elim inner outer (cases_lt g.0 g.1)
      where
        f : (p : ℕ) × (q : ℕ) × Walk x x.strong p q (get_or es j 0) (get_or es i 0) × (p + q ≡ (length es - j) + i) × (p + count j (at_periods ms) ≡ all + count i (at_periods ms))
        f = past i j (omega arith) l

        g : (p : ℕ) × (q : ℕ) × Walk x x.strong p q (get_or es i 0) (get_or es j 0) × (p + q ≡ j - i) × (p + count i (at_periods ms) ≡ count j (at_periods ms))
        g = between i j (omega arith) l

        -- the stretch between the two has too few period steps: then the rest has enough
        inner : g.0 < g.1 → ⊥
        inner h =
            open_none x sound ((length es - j) + i) (none ((length es - j) + i) (omega arith) (omega arith)) (omega arith) f.3 (omega (arith, f.3, f.4, g.3, g.4, half))
            (subst (λ (a : ℕ). Walk x x.strong f.0 f.1 (get_or es j 0) a) e f.2)

        outer : g.1 ≤ g.0 → ⊥
        outer h =
            open_none x sound (j - i) (none (j - i) (omega arith) (omega arith)) (omega arith) g.3 h
            (subst (λ (a : ℕ). Walk x x.strong g.0 g.1 (get_or es i 0) a) (sym e) g.2)

  -- a round is a shortest one from its lowest event, if no fewer steps come back and none of as many begin lower
  pub shortest_from : (es : List ℕ) (ms : List Mark) → IsRcuRound x es ms → length es ≤ x.count → ((k : ℕ) → 1 ≤ k → k < length es → Open x sound k)
      → ((b : ℕ) → b < get_or es 0 0 → 2 * tally (period_step x) (section_step x) (length es) b b < length es + 2) → IsShortestRound x es ms
  shortest_from es ms c short none first = record { round = c; short = short; lowest = lowest; once = once; least = least }
    where
      lowest : (i : ℕ) → i < length es → get_or es 0 0 ≤ get_or es i 0
      lowest i l = ⊎_elim (λ h. absurd (lower h)) (λ h. h) (cases_lt (get_or es i 0) (get_or es 0 0))
        where
          lower : get_or es i 0 < get_or es 0 0 → ⊥
          lower h = let f = round_closed es ms c i l in omega (arith, f.3, f.4, first (get_or es i 0) h, walk_tally x sound (length es) f.3 f.2)

      once : (i j : ℕ) → i < length es → j < length es → get_or es i 0 ≡ get_or es j 0 → i ≡ j
      once i j h l e =
          ⊎_elim (λ z. z) (λ z. ⊎_elim (λ lt. absurd (round_apart es ms c none i j lt l e)) (λ gt. absurd (round_apart es ms c none j i gt h (sym e))) z) (cases_order i j)

      least : (fs : List ℕ) (ns : List Mark) → IsRcuRound x fs ns → length es ≤ length fs
      least fs ns d = ⊎_elim (λ h. absurd (shorter h)) (λ h. h) (cases_lt (length fs) (length es))
        where
          shorter : length fs < length es → ⊥
          shorter h =
              let f = round_closed fs ns d 0 d.some in
              open_none x sound (length fs) (none (length fs) d.some h) d.some f.3 f.4 f.2
