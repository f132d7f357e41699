-- The same relations in the words of the subject: chains of steps, and cycles.
use Rattle.std.specs.Prelude.{◌≡◌, ℕ, true, Decides}
use Rattle.relations.specs.Algebra.{Rel}

-- a chain of one or more steps of r from a to b
pub data Chain (r : Rel) : ℕ → ℕ → Type 0 where
  one : {a b : ℕ} → r a b ≡ true → Chain r a b
  step : {a b c : ℕ} → r a b ≡ true → Chain r b c → Chain r a c

-- no chain comes back
abbrev pub Acyclic : Rel → Type 0
Acyclic r = (a : ℕ) → Chain r a a → ⊥

-- s tells of any two events whether a chain of r leads from the one to the other
abbrev pub DecidesChains : Rel → Rel → Type 0
DecidesChains s r = (a b : ℕ) → Decides (s a b) (Chain r a b)
