use Rattle.grace.specs.Scene.{pb}
use Rattle.settings.specs.Parts.{scene_of}
use Rattle.settings.proofs.kinds.Setting.pb_by.Goals as goal

pub returns-clause-pairs : goal.returns-clause-pairs
unfolding pb scene_of
returns-clause-pairs c = cc
