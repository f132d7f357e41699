-- When a relation of the code is one of the model.
use Rattle.std.specs.Prelude.{◌≡◌, ℕ}
use Rattle.relations.specs.Algebra.{Rel}
use Rattle.relations.specs.View.{rel, size}
use Rattle.relations.specs.declared.kinds.Relation.{Relation}
use Rattle.basis.specs.declared.kinds.Base.{Base}
use Rattle.basis.specs.Basis.{Basis}
use Rattle.basis.specs.View.{basis_of}

-- it has the pairs of r and is on n events
pub record Is (n : ℕ) (r : Rel) (x : Relation) : Type 0 where
  pub pairs : rel x ≡ r
  pub events : size x ≡ n

-- it is the relation that the model names, for the basis that the code holds
abbrev pub Of : Base → (Basis → Rel) → Relation → Type 0
Of b name x = Is (size b.po) (name (basis_of b)) x
