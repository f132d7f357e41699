-- The search by layers: the best step of a row, the steps of a setting, and what it says that no layer comes back.
use Rattle.std.proofs.lemmas.Bool.Decides.{nat_tests}
use Rattle.std.proofs.Common.{◌≡◌, ℕ, zero, suc, ◌+◌, ◌*◌, ◌<◌, ◌≤◌, true, List, length, get_or, sym, refl, ap, ◌∙◌, subst, ap₂, subst₂, ⊎_elim, add-one, arith, Option, None, Some, MatchOption, ◌-◌}
use Rattle.std.proofs.lemmas.Bool.{cases_eq}
use Rattle.rows.specs.Row.{Set}
use Rattle.relations.specs.Algebra.{Rel, seq}
use Rattle.grace.specs.Scene.{Scene, Sound, gp, rscs, link}
use Rattle.grace.specs.Law.{Rcu}
use Rattle.grace.specs.Sheet.{Sheet, most}
use Rattle.grace.proofs.Walks.{short_round_law}
use Rattle.settings.specs.View.{scene}
use Rattle.settings.specs.declared.kinds.Setting.{Setting}
use Rattle.rounds.specs.Layers.{raised, further, tally, BestStep}
use Rattle.rounds.specs.Marks.{period_step, section_step}
use Rattle.rounds.specs.declared.kinds.Mark.{Mark}
use Rattle.rounds.specs.declared.kinds.Mark.TheVariants.{Period}
use Rattle.rounds.specs.Rounds.{IsRound, IsRcuRound, IsShortestRound}
use Rattle.rounds.proofs.Layering.{raised_zero, raised_more, tally_next, Open, open_none}
use Rattle.rounds.proofs.Running.{shortest_from}

-- the first of 64 numbers that a search found, and none before it
pub lowest_is : (r : Option ℕ) (Yes No Found Passed : ℕ → Type 0) → ((a : ℕ) → a < 64 → Yes a → Found a) → ((a : ℕ) → a < 64 → No a → Passed a)
    → MatchOption r ((k : ℕ) → 0 ≤ k → k < 64 → No k) (λ i. (0 ≤ i) × (i < 64) × Yes i × ((k : ℕ) → 0 ≤ k → k < i → No k))
    → MatchOption r ((a : ℕ) → a < 64 → Passed a) (λ a. (a < 64) × Found a × ((b : ℕ) → b < a → Passed b))
lowest_is None Yes No Found Passed is isnt h = λ a l. isnt a l (h a (omega arith) l)
lowest_is (Some i) Yes No Found Passed is isnt h = grind (arith, nat_tests)

-- ---- the best step of a row

module _ (up down : Set) (v : ℕ → ℕ) (c : ℕ) (room : c < 64) where
  pub onward_period : most 64 down v < raised (most 64 up v) → 1 ≤ most 64 up v → up c ≡ true → v c ≡ most 64 up v → BestStep up down v Period c
  onward_period less some e f = grind (arith, nat_tests, raised_more)

-- what is raised is more than nothing
pub raised_some : (n m : ℕ) → m < raised n → 1 ≤ n
raised_some zero m l = absurd (omega (arith, raised_zero 0 refl))
raised_some (suc n) m l = omega arith

-- ---- the steps of a setting

module _ (x : Setting) (g l : Rel) (link-is : l ≡ link (scene x) (scene x).strong) where
  pub up_is : (u : Rel) → g ≡ gp (scene x) → u ≡ seq g l → u ≡ period_step (scene x)
  unfolding period_step
  up_is u e f = f ∙ ap₂ seq e link-is

  pub down_is : (u : Rel) → g ≡ rscs (scene x) → u ≡ seq g l → u ≡ section_step (scene x)
  unfolding section_step
  down_is u e f = f ∙ ap₂ seq e link-is

-- ---- layers

-- one layer more
pub layer_more : (p s : Rel) (k : ℕ) (m m' : Sheet) → 1 ≤ k → ((b : ℕ) → b < 64 → m b ≡ tally p s (k - 1) b) → ((b : ℕ) → b < 64 → m' b ≡ further p s (m b))
    → (b : ℕ) → b < 64 → m' b ≡ tally p s k b
layer_more p s zero m m' some here next b l = absurd (omega arith)
layer_more p s (suc k) m m' some here next b l =
    let e : suc k - 1 ≡ k = omega arith in
    next b l ∙ tally_next p s k b (m b) (here b l ∙ ap (λ (n : ℕ). tally p s n b) e)

-- which is the layer before the next
pub layer_next : (p s : Rel) (k : ℕ) (m : Sheet) → ((b : ℕ) → b < 64 → m b ≡ tally p s k b) → (b : ℕ) → b < 64 → m b ≡ tally p s (k + 1 - 1) b
layer_next p s k m here b l =
    let e : k ≡ k + 1 - 1 = omega arith in
    here b l ∙ ap (λ (n : ℕ). tally p s n b) e

module _ (x : Scene) (sound : Sound x) (p s : Rel) (u : p ≡ period_step x) (d : s ≡ section_step x) where
  -- the entry of an event to itself
  pub layer_at : (k : ℕ) (m : Sheet) → ((b : ℕ) → b < 64 → m b ≡ tally p s k b) → (b : ℕ) → b < 64 → m b b ≡ tally (period_step x) (section_step x) k b b
  layer_at k m here b l = grind (arith, nat_tests)

  pub layer_open : (k : ℕ) (m : Sheet) → ((b : ℕ) → b < 64 → m b ≡ tally p s k b) → ((a : ℕ) → a < 64 → 2 * m a a < k + 2) → Open x sound k
  layer_open k m here none a l = omega (arith, none a l, layer_at k m here a l)

  -- the round that is traced from the lowest event of the first layer that comes back is a shortest one
  module _ (k start : ℕ) (m : Sheet) (here : (b : ℕ) → b < 64 → m b ≡ tally p s k b) (es : List ℕ) (ms : List Mark) (round : IsRound p s es ms) where
    pub traced_round : IsRcuRound x es ms
    traced_round = subst₂ (λ (q r : Rel). IsRound q r es ms) u d round

    pub traced_shortest : length es ≡ k → get_or es 0 0 ≡ start → start < 64 → k ≤ x.count → ((j : ℕ) → 1 ≤ j → j < k → Open x sound j)
        → ((b : ℕ) → b < start → 2 * m b b < k + 2) → IsShortestRound x es ms
    traced_shortest long first room few none lower =
        shortest_from x sound es ms traced_round (omega arith) (λ j l h. none j l (omega arith))
        (λ b h. omega (arith, lower b (omega arith), layer_at k m here b (omega arith), ap (λ (n : ℕ). tally (period_step x) (section_step x) n b b) long))

  -- one more layer that does not come back
  pub open_more : (k : ℕ) (m : Sheet) → ((b : ℕ) → b < 64 → m b ≡ tally p s k b) → ((a : ℕ) → a < 64 → 2 * m a a < k + 2) → ((j : ℕ) → 1 ≤ j → j < k → Open x sound j)
      → (j : ℕ) → 1 ≤ j → j < k + 1 → Open x sound j
  open_more k m here last none j l h =
      ⊎_elim (λ z. subst (Open x sound) (sym z) (layer_open k m here last)) (λ z. none j l (omega arith)) (cases_eq j k)

-- where no layer up to the number of events comes back, Rcu is kept
pub open_kept : (x : Scene) (sound : Sound x) → ((j : ℕ) → 1 ≤ j → j ≤ x.count → Open x sound j) → Rcu x x.strong
open_kept x sound none p q a t some le =
    let r = short_round_law x sound x.strong (record { event = a; periods = p; sections = q; walked = t; some = some; enough = le }) in
    open_none x sound (r.0.periods + r.0.sections) (none (r.0.periods + r.0.sections) r.0.some r.1) r.0.some refl r.0.enough r.0.walked
