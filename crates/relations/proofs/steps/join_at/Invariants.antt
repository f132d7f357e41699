use Rattle.std.proofs.Common.{◌≡◌}
use Rattle.relations.specs.Table.{table}
use Rattle.relations.proofs.Joins.{joined}
use Rattle.relations.proofs.steps.join_at.Given as goal

abbrev pub invariant-loop-row : goal.invariant-loop-row
invariant-loop-row l = table l.rows ≡ joined l.k l.row-index (table l.initial.rows)
