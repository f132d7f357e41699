-- The parts of a setting, and when they fit together.
use Rattle.std.specs.Prelude.{◌≡◌, ℕ, ◌<◌, Bool, true, not, ◌&&◌}
use Rattle.rows.specs.Row.{bit}
use Rattle.relations.specs.Algebra.{Rel, any}
use Rattle.relations.specs.View.{rel, size}
use Rattle.relations.specs.declared.kinds.Relation.{Relation}
use Rattle.grace.specs.Scene.{Scene, Contains, gp}

-- the scene of these relations: as many events as program order has, and the periods of a row
unfoldable pub scene_of : (po prop hb strong crit : Relation) (periods : ℕ) → Scene
scene_of po prop hb strong crit periods = record {
  count = size po;
  po = rel po;
  prop = rel prop;
  hb = rel hb;
  strong = rel strong;
  crit = rel crit;
  period = bit periods;
}

-- all relations are on as many events
pub record Alike (po prop hb strong crit : Relation) : Type 0 where
  pub prop_size : size prop ≡ size po
  pub hb_size : size hb ≡ size po
  pub strong_size : size strong ≡ size po
  pub crit_size : size crit ≡ size po

-- two relations have the same pairs
abbrev pub Same : Rel → Rel → Type 0
Same r s = (a b : ℕ) → r a b ≡ s a b

-- every period is an event
abbrev pub Inside : ℕ → ℕ → Type 0
Inside n periods = (s : ℕ) → bit periods s ≡ true → s < n

-- the parts fit: as many events everywhere, the periods among them, and every grace period a strong fence
pub record Fit (po prop hb strong crit : Relation) (periods : ℕ) : Type 0 where
  pub alike : Alike po prop hb strong crit
  pub inside : Inside (size po) periods
  pub fences : Contains (rel strong) (gp (scene_of po prop hb strong crit periods))

-- r has each pair of s that begins at a
unfoldable pub covers : Rel → Rel → ℕ → Bool
covers r s a = not (any 64 (λ b. s a b && not (r a b)))
