use Rattle.std.proofs.Common.{sym, arith}
use Rattle.std.proofs.lemmas.Result.{err_from_is_err_and}
use Rattle.executions.specs.Execution.{count}
use Rattle.sources.specs.Snapshot.{execution}
use Rattle.sources.proofs.Copying.{held_few}
use Rattle.wellformed.specs.Faults.{row_fault}
use Rattle.wellformed.proofs.First.{first_none, first_more, first_stop, first_all}
use Rattle.wellformed.proofs.Walking.{before_none, before_more}
use Rattle.wellformed.proofs.ties.test_relation.Goals as goal

pub loop-a-init : goal.loop-a-init
loop-a-init c = (first_none _, before_none (execution c.args.case.now) c.args.relation)

pub test_row-requires : goal.test_row-requires
test_row-requires c = record { there = omega (arith, c.count-a-end.ensures); before = c.loop-a.invariant.1 }

pub loop-a-preserved : goal.loop-a-preserved
loop-a-preserved c = (
  first_more _ c.loop-a.a c.loop-a.invariant.0 (sym c.in_ok-test_row.ensures),
  before_more (execution c.args.case.now) c.args.relation c.loop-a.a c.loop-a.ends.targets c.loop-a.ends.sources c.row.result
      c.with_row-ends.result (omega (arith, c.count-a-end.ensures, held_few c.args.case.now)) c.row.ensures c.with_row-ends.ensures.targets
      c.with_row-ends.ensures.sources c.loop-a.invariant.1,
)

pub returns-in_err-test_row : goal.returns-in_err-test_row
returns-in_err-test_row c =
    let p = err_from_is_err_and c.from_residual.result c.from_residual.ensures.1 in
    rw (p.1, p.2)
    (first_stop (row_fault (execution c.args.case.now) c.args.relation) c.loop-a.a (count (execution c.args.case.now)) _
    (omega (arith, c.count-a-end.ensures)) c.loop-a.invariant.0 (sym c.in_err-test_row.ensures))

pub returns : goal.returns
returns c =
    first_all (row_fault (execution c.args.case.now) c.args.relation) c.loop-a.a (count (execution c.args.case.now))
    (omega (arith, c.count-a-end.ensures)) (omega (arith, c.count-a-end.ensures)) c.loop-a.invariant.0
