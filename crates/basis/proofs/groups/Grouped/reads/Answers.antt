use Rattle.basis.specs.Meaning.{of_sort}
use Rattle.basis.proofs.Members.{either_is}
use Rattle.basis.proofs.groups.Grouped.reads.Goals as goal

pub returns : goal.returns
unfolding of_sort
returns c = either_is c.sorted.result c.sorted-2.result _ _ c.sorted.ensures c.sorted-2.ensures
