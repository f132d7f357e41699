use Rattle.std.proofs.Common.{arith}
use Rattle.relations.specs.View.{rel}
use Rattle.relations.proofs.Ranges.{on_rel, on_either, on_pair}
use Rattle.relations.proofs.Tables.{owes}
use Rattle.relations.proofs.Writes.{set_adds}
use Rattle.relations.proofs.kinds.Relation.add.Goals as goal

pub invariant_of-self : goal.invariant_of-self
unfolding rel
invariant_of-self c =
    owes _ _ _ (omega arith) (on_either _ _ _ (on_rel c.args.self.now) (on_pair _ _ _))
    (set_adds _ _ c.args.a c.args.b _ (omega arith) (omega arith) (omega arith) (omega arith) c.with.ensures)
