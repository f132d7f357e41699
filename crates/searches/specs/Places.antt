-- Orders of events, by their places.
use Rattle.std.specs.Prelude.{◌≡◌, ℕ, ◌<◌, true}
use Rattle.relations.specs.Algebra.{Rel}

-- places for n events that keep the order of r
pub record IsOrder (r : Rel) (n : ℕ) (place : ℕ → ℕ) : Type 0 where
  -- each event has one of the places below n
  pub below : (a : ℕ) → a < n → place a < n
  -- no two have the same
  pub apart : (a b : ℕ) → a < n → b < n → place a ≡ place b → a ≡ b
  -- and they rise along r
  pub rising : (a b : ℕ) → r a b ≡ true → place a < place b
