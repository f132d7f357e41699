use Rattle.grace.specs.Scene.{link}
use Rattle.settings.specs.Parts.{scene_of}
use Rattle.settings.proofs.kinds.Setting.link.Goals as goal

pub returns-clause-pairs : goal.returns-clause-pairs
unfolding link scene_of
returns-clause-pairs c = cc
