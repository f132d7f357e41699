use Rattle.std.proofs.Common.{arith}
use Rattle.std.proofs.lemmas.Bool.Decides.{nat_tests}
use Rattle.grace.specs.Scene.{rscs}
use Rattle.settings.specs.Parts.{scene_of}
use Rattle.settings.proofs.kinds.Setting.rscs.Goals as goal

pub returns-clause-pairs : goal.returns-clause-pairs
unfolding rscs scene_of
returns-clause-pairs c = grind (arith, nat_tests)
