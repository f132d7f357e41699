-- Rounds of Rcu are short, so that Rcu can be decided by looking at walks of at most as many steps as there are events.
use Rattle.std.specs.Prelude.{ℕ, ◌+◌, ◌≤◌}
use Rattle.relations.specs.Algebra.{Rel}
use Rattle.grace.specs.Scene.{Scene, Sound}
use Rattle.grace.specs.Law.{Walk}

-- A round of Rcu: a walk of one or more steps, at least as many of them period steps as section steps, back to its first event.
pub record RcuRound (x : Scene) (f : Rel) : Type 0 where
  pub event : ℕ
  pub periods : ℕ
  pub sections : ℕ
  pub walked : Walk x f periods sections event event
  pub some : 1 ≤ periods + sections
  pub enough : sections ≤ periods

-- Where there is a round, there is one of at most as many steps as there are events.
abbrev pub ShortRoundLaw : Type 0
ShortRoundLaw = (x : Scene) → Sound x → (f : Rel) → RcuRound x f → (r : RcuRound x f) × (r.periods + r.sections ≤ x.count)
