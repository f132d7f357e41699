use Rattle.relations.proofs.Built.{Filled}
use Rattle.relations.proofs.kinds.Relation.by_rows.Given as goal

abbrev pub invariant-loop-a : goal.invariant-loop-a
invariant-loop-a g l = Filled (goal.F-post g l.row) l.inside l.targets-items l.a
