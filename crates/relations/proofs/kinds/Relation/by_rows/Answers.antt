use Rattle.std.proofs.Common.{rules}
use Rattle.std.proofs.Common.{arith}
use Rattle.relations.specs.View.{rel}
use Rattle.relations.proofs.Built.{filled_none, filled_more, filled_rows, filled_on}
use Rattle.relations.proofs.kinds.Relation.by_rows.Goals as goal

pub loop-a-init : goal.loop-a-init
loop-a-init g c = filled_none _ _ _

pub loop-a-preserved : goal.loop-a-preserved
loop-a-preserved g c = search (rules, filled_more)

pub invariant_of-result : goal.invariant_of-result
invariant_of-result g c = record {
  few = omega arith;
  inside = filled_on _ _ _ _ _ c.loop-a.auto.targets-items c.loop-a-test.false (omega arith) c.below-inside.ensures c.loop-a.invariant;
}

pub returns : goal.returns
unfolding rel
returns g c = search (rules, filled_rows)
