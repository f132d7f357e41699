use Rattle.std.proofs.Common.{◌≡◌}
use Rattle.relations.specs.Algebra.{paths}
use Rattle.relations.specs.Table.{table}
use Rattle.relations.specs.View.{rel}
use Rattle.relations.proofs.kinds.Relation.plus.Given as goal

abbrev pub invariant-loop-k : goal.invariant-loop-k
invariant-loop-k l = table l.joined ≡ paths l.k (rel l.self)
