use Rattle.std.proofs.Common.{rules}
use Rattle.lkmm.specs.Model.{rwdep}
use Rattle.lkmm.proofs.Threads.{from_to}
use Rattle.lkmm.proofs.parts.Parts.rwdep.Goals as goal

pub returns : goal.returns
unfolding rwdep
returns c = search (rules, from_to)
