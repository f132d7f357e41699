use Rattle.std.proofs.Common.{◌≡◌, ℕ, None, take, sym, subst, arith}
use Rattle.std.proofs.lemmas.Result.{err_from_is_err_and}
use Rattle.executions.specs.declared.ties.Relation.TheVariants.{Rf}
use Rattle.executions.specs.Ties.{relations}
use Rattle.sources.specs.Snapshot.{execution}
use Rattle.wellformed.specs.Faults.{first_in, relation_fault}
use Rattle.wellformed.proofs.First.{first_in_more, first_in_stop}
use Rattle.wellformed.proofs.ties.test_ties.Goals as goal

pub loop-relation-preserved : goal.loop-relation-preserved
loop-relation-preserved c =
    first_in_more (relation_fault (execution c.args.case.now)) relations c.loop-relation.relation-index Rf (omega arith) c.loop-relation.invariant
    (sym c.in_ok-test_relation.ensures)

pub returns-in_err-test_relation : goal.returns-in_err-test_relation
returns-in_err-test_relation c =
    let p = err_from_is_err_and c.from_residual.result c.from_residual.ensures.1 in
    rw (p.1, p.2)
    (first_in_stop (relation_fault (execution c.args.case.now)) relations c.loop-relation.relation-index Rf c.in_err-test_relation.field-0.0 (omega arith) c.loop-relation.invariant
    (sym c.in_err-test_relation.ensures))

pub returns : goal.returns
returns c =
    let end : c.loop-relation.relation-index ≡ 6 = omega arith in
    sym (subst (λ (k : ℕ). first_in (relation_fault (execution c.args.case.now)) (take k relations) ≡ None) end c.loop-relation.invariant)
