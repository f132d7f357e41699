-- A row walked from its lowest number to its highest.
use Rattle.std.specs.Prelude.{◌≡◌, ℕ, Option, MatchOption, false}
use Rattle.rows.specs.Row.{Set, dropping, Lowest}

-- the lowest number of a set is taken out of it
pub record Taken (s : Set) (c : ℕ) (t : Set) : Type 0 where
  pub lowest : Lowest s c
  pub left : t ≡ dropping c s

-- one step of a walk: the lowest number that is left, or none where there is none
abbrev pub TakesLowest : Set → Option ℕ → Set → Type 0
TakesLowest s r t = MatchOption r ((x : ℕ) → s x ≡ false) (λ c. Taken s c t)
