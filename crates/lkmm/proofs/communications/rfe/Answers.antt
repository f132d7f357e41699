use Rattle.std.proofs.Common.{rules}
use Rattle.lkmm.specs.Model.{rfe}
use Rattle.lkmm.proofs.Threads.{outside}
use Rattle.lkmm.proofs.communications.rfe.Goals as goal

pub returns : goal.returns
unfolding rfe
returns c = search (rules, outside)
