use Rattle.std.proofs.Common.{◌≡◌}
use Rattle.rows.specs.Row.{bit}
use Rattle.relations.specs.Algebra.{union, product, only}
use Rattle.relations.specs.Table.{table}
use Rattle.relations.proofs.steps.scatter.Given as goal

abbrev pub invariant-loop-b : goal.invariant-loop-b
invariant-loop-b l = union (table l.rows) (product (bit l.b-iterator.rest) (only l.a)) ≡ union (table l.initial.rows) (product (bit l.set) (only l.a))
