-- Walks of a given number of steps.
use Rattle.std.specs.Prelude.{ℕ, zero, suc}
use Rattle.relations.specs.Algebra.{Set, Rel, identity, seq}

-- exactly k steps of r
unfoldable pub walks : ℕ → Rel → Rel
walks zero r = identity 64
walks (suc k) r = seq r (walks k r)

-- the events from which b is reached in exactly k steps
unfoldable pub reaching : ℕ → Rel → ℕ → Set
reaching k r b a = walks k r a b
