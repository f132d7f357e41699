use Rattle.std.proofs.lemmas.Bool.Decides.{nat_tests}
use Rattle.std.proofs.Common.{arith}
use Rattle.basis.specs.Basis.{id}
use Rattle.lkmm.specs.Model.{hb}
use Rattle.lkmm.proofs.parts.Parts.hb.Goals as goal

pub returns : goal.returns
unfolding hb id
returns c = grind (arith, nat_tests)
