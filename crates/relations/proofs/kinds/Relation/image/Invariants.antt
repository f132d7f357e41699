use Rattle.std.proofs.Common.{◌≡◌}
use Rattle.rows.specs.Row.{bit}
use Rattle.relations.specs.Algebra.{image}
use Rattle.relations.specs.View.{rel}
use Rattle.relations.proofs.Images.{either}
use Rattle.relations.proofs.kinds.Relation.image.Given as goal

abbrev pub invariant-loop-a : goal.invariant-loop-a
invariant-loop-a l = either (bit l.targets) (image (rel l.self) (bit l.a-iterator.rest)) ≡ image (rel l.self) (bit l.sources)
