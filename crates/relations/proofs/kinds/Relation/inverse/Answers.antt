use Rattle.std.proofs.Common.{refl, ◌∙◌, arith}
use Rattle.std.proofs.lemmas.List.{get_or-take}
use Rattle.relations.specs.View.{rel}
use Rattle.relations.proofs.Ranges.{on_rel}
use Rattle.relations.proofs.Tables.{owes}
use Rattle.relations.proofs.Turns.{turn_none, turn_more, turn_all, on_inverse}
use Rattle.relations.proofs.kinds.Relation.inverse.Goals as goal

pub loop-a-init : goal.loop-a-init
loop-a-init c = turn_none _

pub loop-a-preserved : goal.loop-a-preserved
unfolding rel
loop-a-preserved c = c.scatter.ensures ∙ turn_more c.args.self.now.rows c.loop-a.a _ _ (omega arith) (get_or-take c.args.self.now.events _ c.loop-a.a _ (omega arith)) (omega arith) c.loop-a.invariant

pub invariant_of-result : goal.invariant_of-result
invariant_of-result c =
    owes _ _ _ (omega arith) (on_inverse _ _ (on_rel c.args.self.now)) (c.loop-a.invariant ∙ turn_all _ _ _ (omega arith) (on_rel c.args.self.now))

pub returns : goal.returns
unfolding rel
returns c = record { pairs = c.loop-a.invariant ∙ turn_all _ _ _ (omega arith) (on_rel c.args.self.now); events = refl }
