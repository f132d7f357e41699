use Rattle.std.proofs.Common.{rules}
use Rattle.basis.proofs.Members.{sort_is}
use Rattle.basis.proofs.groups.Grouped.sorted.Goals as goal

pub returns : goal.returns
returns c = search (rules, sort_is)
