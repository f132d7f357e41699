use Rattle.std.proofs.Common.{ap, ◌∙◌, arith}
use Rattle.std.proofs.lemmas.List.{set-get_or}
use Rattle.relations.specs.Table.{table}
use Rattle.relations.proofs.Joins.{joined_test, joined_more, joined_skip}
use Rattle.relations.proofs.steps.join_at.Goals as goal
use Rattle.relations.proofs.steps.join_at.Goals.{then-has, else-has}

pub loop-row-preserved : goal.loop-row-preserved
loop-row-preserved c = elim c.if-has.branch [
  | then-has w ↦ ap table w.rows-is ∙ joined_more _ _ _ _ (omega arith) (omega arith) (omega arith) c.loop-row.invariant (joined_test _ _ _ _ _ _ (omega arith) (omega arith) c.loop-row.invariant c.has.ensures w.if-has.true)
  | else-has w ↦ ap table (w.rows-is ∙ set-get_or _ _ _) ∙ c.loop-row.invariant ∙ joined_skip _ _ _ (joined_test _ _ _ _ _ _ (omega arith) (omega arith) c.loop-row.invariant c.has.ensures w.if-has.false)
]
