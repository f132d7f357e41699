-- Layers: how far the tallies reach, and that they are as large as any walk.
use Rattle.std.proofs.lemmas.Bool.Decides.{nat_tests}
use Rattle.std.proofs.Common.{◌≡◌, ℕ, zero, suc, ◌+◌, ◌-◌, ◌*◌, ◌<◌, ◌≤◌, Bool, true, false, eqb, List, length, get_or, set, sym, refl, ap, ◌∙◌, ⊎_elim, arith}
use Rattle.std.proofs.lemmas.List.{get_or-set_same, get_or-set_other}
use Rattle.std.proofs.lemmas.Bool.{cases_eq, eq-eqb, ne_eqb}
use Rattle.rows.specs.Row.{tick}
use Rattle.relations.specs.Algebra.{Rel}
use Rattle.grace.specs.Scene.{Scene, Sound}
use Rattle.grace.specs.Law.{Walk, Walk.here, Walk.by_period, Walk.by_section}
use Rattle.grace.specs.Sheet.{most}
use Rattle.grace.proofs.Closure.{seq_parts}
use Rattle.grace.proofs.Rules.{link_ends}
use Rattle.precedence.specs.Rows.{cells}
use Rattle.precedence.proofs.Cells.{cells_are}
use Rattle.precedence.proofs.Largest.{most_le}
use Rattle.rounds.specs.Layers.{raised, further, tally}
use Rattle.rounds.specs.Marks.{period_step, section_step}
use Rattle.grace.proofs.Sheets.{most_above, most_none}

pub raised_zero : (n : ℕ) → n ≡ 0 → 0 ≡ raised n
unfolding raised
raised_zero zero e = refl
raised_zero (suc n) e = absurd (omega arith)

pub raised_more : (n : ℕ) → (n ≡ 0 → ⊥) → n + 1 ≡ raised n
unfolding raised
raised_more zero some = absurd (some refl)
raised_more (suc n) some = omega arith

raised_le : (n m : ℕ) → n ≤ m → raised n ≤ suc m
unfolding raised
raised_le zero m l = omega arith
raised_le (suc n) m l = omega arith

tick_le : (b : Bool) → tick b ≤ 1
tick_le true = omega arith
tick_le false = omega arith

-- k steps have at most k period steps
pub tally_le : (p s : Rel) (k b a : ℕ) → tally p s k b a ≤ suc k
unfolding tally further
tally_le p s zero b a = tick_le (eqb a b)
tally_le p s (suc k) b a =
    let u = most_le 64 (suc k) (p a) (tally p s k b) (λ c l e. tally_le p s k b c) in
    let v = most_le 64 (suc k) (s a) (tally p s k b) (λ c l e. tally_le p s k b c) in
    omega (arith, raised_le (most 64 (p a) (tally p s k b)) (suc k) u)

-- a tally is a byte
pub tally_byte : (p s : Rel) (k b a : ℕ) → k ≤ 64 → tally p s k b a < 255
tally_byte p s k b a l = omega (arith, tally_le p s k b a)

-- an event with no steps
pub further_none : (p s : Rel) (v : ℕ → ℕ) (a : ℕ) → ((c : ℕ) → p a c ≡ false) → ((c : ℕ) → s a c ≡ false) → further p s v a ≡ 0
unfolding further
further_none p s v a f g = grind (arith, nat_tests, raised_zero, most_none)

-- one step further
pub tally_next : (p s : Rel) (k b : ℕ) (v : ℕ → ℕ) → v ≡ tally p s k b → further p s v ≡ tally p s (suc k) b
unfolding tally
tally_next p s k b v e = ap (further p s) e

pub tally_before : (p s : Rel) (j b : ℕ) (v : ℕ → ℕ) → 0 < j → v ≡ tally p s (j - 1) b → further p s v ≡ tally p s j b
tally_before p s j b v pos e = let n : suc (j - 1) ≡ j = omega arith in tally_next p s (j - 1) b v e ∙ ap (λ (k : ℕ). tally p s k b) n

-- no steps
pub tally_none : (p s : Rel) (b : ℕ) → (λ a. tick (eqb a b)) ≡ tally p s 0 b
unfolding tally
tally_none p s b = refl

pub unit_cells : (old : List ℕ) (end : ℕ) → length old ≡ 64 → ((b : ℕ) → b < 64 → get_or old b 0 ≡ 0) → end < 64 → cells (set old end 1) ≡ (λ a. tick (eqb a end))
unit_cells old end long zeros l = cells_are (set old end 1) (λ a. tick (eqb a end)) near (λ b h. ap tick (ne_eqb b end (λ z. omega arith)))
  where
    near : (b : ℕ) → b < 64 → get_or (set old end 1) b 0 ≡ tick (eqb b end)
    near b h =
        ⊎_elim (λ z. ap (λ (n : ℕ). get_or (set old end 1) n 0) z ∙ get_or-set_same old end 1 0 (omega arith) ∙ sym (ap tick (eq-eqb b end z)))
        (λ z. get_or-set_other old end b 1 0 z ∙ zeros b h ∙ sym (ap tick (ne_eqb b end z))) (cases_eq b end)

-- a step before
step_up : (p s : Rel) (k b a c : ℕ) → c < 64 → p a c ≡ true → 1 ≤ tally p s k b c → suc (tally p s k b c) ≤ tally p s (suc k) b a
unfolding tally further
step_up p s k b a c l e some =
    let u = most_above 64 c (p a) (tally p s k b) l e in
    omega (arith, raised_more (most 64 (p a) (tally p s k b)) (λ z. omega arith))

step_down : (p s : Rel) (k b a c : ℕ) → c < 64 → s a c ≡ true → tally p s k b c ≤ tally p s (suc k) b a
unfolding tally further
step_down p s k b a c l e = omega (arith, most_above 64 c (s a) (tally p s k b) l e)

module _ (x : Scene) (sound : Sound x) where
  up_ends : (a c : ℕ) → period_step x a c ≡ true → c < x.count
  unfolding period_step
  up_ends a c e = grind (arith, nat_tests, seq_parts, link_ends)

  down_ends : (a c : ℕ) → section_step x a c ≡ true → c < x.count
  unfolding section_step
  down_ends a c e = grind (arith, nat_tests, seq_parts, link_ends)

  -- a walk is in the tally of its steps
  pub walk_tally : {p q a b : ℕ} (k : ℕ) → p + q ≡ k → Walk x x.strong p q a b → suc p ≤ tally (period_step x) (section_step x) k b a
  unfolding tally period_step section_step
  walk_tally {a = a} zero e here = omega (arith, ap tick (eq-eqb a a refl))
  walk_tally (suc k) e here = absurd (omega arith)
  walk_tally zero e (by_period s t) = absurd (omega arith)
  walk_tally {a = a} {b} (suc k) e (by_period {b = c} s t) =
      let rest = walk_tally k (omega arith) t in
      omega (arith, step_up (period_step x) (section_step x) k b a c (omega (arith, up_ends a c s, sound.few)) s (omega arith))
  walk_tally zero e (by_section s t) = absurd (omega arith)
  walk_tally {a = a} {b} (suc k) e (by_section {b = c} s t) =
      let rest = walk_tally k (omega arith) t in
      omega (arith, step_down (period_step x) (section_step x) k b a c (omega (arith, down_ends a c s, sound.few)) s)

  -- where a closed walk begins
  walk_ends : {p q a b : ℕ} → Walk x x.strong p q a b → 1 ≤ p + q → (b < 64)
  unfolding period_step section_step
  walk_ends here some = absurd (omega arith)
  walk_ends (by_period {a = a} {b = b} s here) some = omega (arith, up_ends a b s, sound.few)
  walk_ends (by_period s (by_period u t)) some = walk_ends (by_period u t) (omega arith)
  walk_ends (by_period s (by_section u t)) some = walk_ends (by_section u t) (omega arith)
  walk_ends (by_section {a = a} {b = b} s here) some = omega (arith, down_ends a b s, sound.few)
  walk_ends (by_section s (by_period u t)) some = walk_ends (by_period u t) (omega arith)
  walk_ends (by_section s (by_section u t)) some = walk_ends (by_section u t) (omega arith)

  -- a layer in which no event closes a round
  abbrev pub Open : ℕ → Type 0
  Open k = (a : ℕ) → a < 64 → 2 * tally (period_step x) (section_step x) k a a < k + 2

  -- has no closed walk with at least as many period as section steps
  pub open_none : {p q a : ℕ} (k : ℕ) → Open k → 1 ≤ k → p + q ≡ k → q ≤ p → Walk x x.strong p q a a → ⊥
  open_none {a = a} k none some e le t = omega (arith, none a (walk_ends t (omega arith)), walk_tally k e t)
