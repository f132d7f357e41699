-- The first table lock by lock: one row of it at a time, with no rule to be decided anew.
use Rattle.std.specs.Prelude.{◌≡◌, ℕ, ◌≤◌, true, ◌&&◌, ◌↔◌}
use Rattle.relations.specs.Algebra.{Rel, union, any}
use Rattle.grace.specs.Scene.{Scene, Sound, link}
use Rattle.grace.specs.Law.{Walk, Kept, Table, pair, before_unlock, from_on, section_first}
use Rattle.grace.specs.First.{First}

-- section first, for each lock below l and each period where F has it so
unfoldable pub rows : Scene → Table → ℕ → Rel
rows x F l a b = any l (λ k. any 64 (λ s. pair x k s && (F k s && section_first x k s a b)))

-- A way back from the period s to the section with lock l, with f for the strong fences: a link and a walk, at least as many of its
-- steps period steps as section steps, from the period or an event after it to an event before the unlock.
pub record WayBack (x : Scene) (f : Rel) (l s : ℕ) : Type 0 where
  pub start : ℕ
  pub turn : ℕ
  pub end : ℕ
  pub periods : ℕ
  pub sections : ℕ
  pub starts : from_on x s start ≡ true
  pub linked : link x f start turn ≡ true
  pub walked : Walk x f periods sections turn end
  pub ends : before_unlock x l end ≡ true
  pub enough : sections ≤ periods

-- F decides lock by lock: a section goes before just those periods from which no way leads back to it, over the strong fences and the
-- rows of the locks before it.
abbrev pub Rowwise : Scene → Table → Type 0
Rowwise x F = (l s : ℕ) → pair x l s ≡ true → F l s ≡ true ↔ (WayBack x (union x.strong (rows x F l)) l s → ⊥)

-- Where Pb and Rcu are kept, the table found lock by lock is the first too.
abbrev pub RowLaw : Type 0
RowLaw = (x : Scene) → Sound x → Kept x x.strong → (F : Table) → Rowwise x F → First x F
