use Rattle.std.proofs.lemmas.Bool.Decides.{nat_tests}
use Rattle.std.proofs.Common.{arith}
use Rattle.relations.specs.Algebra.{star}
use Rattle.lkmm.specs.Model.{ppo}
use Rattle.lkmm.proofs.parts.Parts.ppo.Goals as goal

pub returns : goal.returns
unfolding ppo star
returns c = grind (arith, nat_tests)
