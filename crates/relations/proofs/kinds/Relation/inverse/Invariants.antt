use Rattle.std.proofs.Common.{◌≡◌, ltb}
use Rattle.relations.specs.Algebra.{from, inverse}
use Rattle.relations.specs.Table.{table}
use Rattle.relations.specs.View.{rel}
use Rattle.relations.proofs.kinds.Relation.inverse.Given as goal

-- the pairs that begin at an event below a are turned round
abbrev pub invariant-loop-a : goal.invariant-loop-a
invariant-loop-a l = table l.rows ≡ inverse (from (λ x. ltb x l.a) (rel l.self))
