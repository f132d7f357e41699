use Rattle.std.proofs.Common.{rules}
use Rattle.lkmm.specs.Model.{«coe»}
use Rattle.lkmm.proofs.Threads.{outside}
use Rattle.lkmm.proofs.communications.coe.Goals as goal

pub returns : goal.returns
unfolding «coe»
returns c = search (rules, outside)
