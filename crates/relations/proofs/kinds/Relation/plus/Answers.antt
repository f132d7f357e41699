use Rattle.std.proofs.Common.{rules}
use Rattle.std.proofs.Common.{◌∙◌, arith}
use Rattle.std.proofs.lemmas.List.{length-take-le}
use Rattle.relations.specs.Algebra.{paths}
use Rattle.relations.specs.View.{rel}
use Rattle.relations.proofs.Closure.{on_paths, plus_enough, chains_at}
use Rattle.relations.proofs.Joins.{via_paths}
use Rattle.relations.proofs.Ranges.{on_rel, on_more}
use Rattle.relations.proofs.Tables.{owes, front_table, front_write}
use Rattle.relations.proofs.kinds.Relation.plus.Goals as goal

pub loop-k-init : goal.loop-k-init
unfolding rel paths
loop-k-init c = front_table _ _ (on_rel c.args.self.now)

pub loop-k-preserved : goal.loop-k-preserved
loop-k-preserved c = c.join_at.ensures ∙ via_paths _ _ _ c.loop-k.invariant

pub invariant_of-result : goal.invariant_of-result
unfolding rel
invariant_of-result c = owes _ _ _ (omega arith) (on_paths _ _ _ (on_rel c.args.self.now)) (front_write _ c.args.self.now.rows (on_rel c.args.self.now) _ (c.loop-k.auto.joined ∙ length-take-le _ _ (omega arith)) ∙ c.loop-k.invariant)

pub returns : goal.returns
unfolding rel
returns c = search (rules, front_write, on_rel, length-take-le, plus_enough, chains_at, on_more)
