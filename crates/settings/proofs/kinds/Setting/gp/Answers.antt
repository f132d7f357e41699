use Rattle.std.proofs.Common.{rules}
use Rattle.settings.specs.Parts.{scene_of}
use Rattle.settings.proofs.Settings.{ahead_is, gp_is}
use Rattle.settings.proofs.kinds.Setting.gp.Goals as goal

pub returns-clause-pairs : goal.returns-clause-pairs
unfolding scene_of
returns-clause-pairs c = search (rules, gp_is, ahead_is)
