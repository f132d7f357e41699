-- What the model of the code stands for.
use Rattle.basis.specs.Basis.{Basis}
use Rattle.basis.specs.View.{basis_of}
use Rattle.lkmm.specs.declared.kinds.Model.{Model}

-- the basis that it is about
abbrev pub held : Model → Basis
held m = basis_of m.base
