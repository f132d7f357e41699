use Rattle.std.proofs.Common.{rules}
use Rattle.lkmm.specs.Model.{fre}
use Rattle.lkmm.proofs.Threads.{outside}
use Rattle.lkmm.proofs.parts.Parts.fre.Goals as goal

pub returns : goal.returns
unfolding fre
returns c = search (rules, outside)
