use Rattle.basis.proofs.Grouping.{grouped_none}
use Rattle.basis.proofs.groups.Grouped.of.Goals as goal

pub loop-i-init : goal.loop-i-init
loop-i-init c = (grouped_none _, grouped_none _, grouped_none _)
