use Rattle.std.proofs.Common.{arith}
use Rattle.relations.specs.View.{rel}
use Rattle.relations.proofs.Ranges.{on_rel, on_replaced}
use Rattle.relations.proofs.Tables.{owes}
use Rattle.relations.proofs.Writes.{set_replaces}
use Rattle.relations.proofs.kinds.Relation.replace.Goals as goal

pub invariant_of-self : goal.invariant_of-self
unfolding rel
invariant_of-self c = owes _ _ _ (omega arith) (on_replaced _ c.args.a _ _ (on_rel c.args.self.now)) (set_replaces _ _ _ _ _ (omega arith) (omega arith) (omega arith) c.below.ensures)
