use Rattle.std.proofs.Common.{arith}
use Rattle.relations.specs.View.{rel}
use Rattle.relations.proofs.Tables.{owes, table_zeros}
use Rattle.relations.proofs.Ranges.{on_empty}
use Rattle.relations.proofs.kinds.Relation.empty.Goals as goal

pub invariant_of-result : goal.invariant_of-result
invariant_of-result c = owes _ _ _ (omega arith) (on_empty _) table_zeros

pub returns-clause-pairs : goal.returns-clause-pairs
unfolding rel
returns-clause-pairs c = table_zeros
