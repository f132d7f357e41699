use Rattle.std.proofs.Common.{rules}
use Rattle.basis.proofs.Grouping.{put_is}
use Rattle.basis.proofs.groups.put.Goals as goal

pub returns : goal.returns
returns c = search (rules, put_is)
