use Rattle.std.proofs.Common.{rules}
use Rattle.lkmm.specs.Model.{prop}
use Rattle.lkmm.proofs.Threads.{outside}
use Rattle.lkmm.proofs.parts.Parts.prop.Goals as goal

pub returns : goal.returns
unfolding prop
returns c = search (rules, outside)
