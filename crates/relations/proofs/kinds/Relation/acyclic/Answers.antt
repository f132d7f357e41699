use Rattle.std.proofs.Common.{rules, tests, arith}
use Rattle.rows.proofs.Any.{any_over}
use Rattle.relations.specs.View.{rel}
use Rattle.relations.proofs.Closure.{acyclic_test}
use Rattle.relations.proofs.Ranges.{on_rel}
use Rattle.relations.proofs.kinds.Relation.acyclic.Goals as goal

pub returns : goal.returns
returns c =
    acyclic_test _ (rel c.plus-closure.result) _ _ (omega arith) (on_rel c.args.self.now) c.plus-closure.ensures.pairs
    (any_over c.args.self.now.events (λ a. rel c.plus-closure.result a a) _ _ c.any.result (cc) c.any.ensures.ran (λ x b q k. search (rules, tests)))
