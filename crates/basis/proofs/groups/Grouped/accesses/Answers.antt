use Rattle.basis.specs.Meaning.{accesses}
use Rattle.basis.proofs.Members.{either_is}
use Rattle.basis.proofs.groups.Grouped.accesses.Goals as goal

pub returns : goal.returns
unfolding accesses
returns c = either_is c.reads.result c.writes.result _ _ c.reads.ensures c.writes.ensures
