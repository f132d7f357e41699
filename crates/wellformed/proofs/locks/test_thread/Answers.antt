use Rattle.std.proofs.Common.{Bool, Some, None, ap, ◌∙◌, arith}
use Rattle.std.proofs.lemmas.Result.{err_from_is_err_and}
use Rattle.executions.specs.declared.faults.Cause.TheVariants.{LocksNotPaired}
use Rattle.sources.specs.Snapshot.{execution}
use Rattle.sources.proofs.Copying.{held_few}
use Rattle.wellformed.specs.Faults.{fault_if}
use Rattle.wellformed.proofs.First.{first_none, first_more}
use Rattle.wellformed.proofs.Locking.{depth_none, depth_more, lock_none, lock_more, lock_within, unlock_is, unlock_first, open_first}
use Rattle.wellformed.proofs.locks.test_thread.Goals as goal

pub loop-i-init : goal.loop-i-init
loop-i-init c = (depth_none (execution c.args.case.now) c.args.thread, lock_none (execution c.args.case.now) c.args.thread, first_none _, omega arith)

pub loop-i-preserved : goal.loop-i-preserved
loop-i-preserved c = (
  depth_more (execution c.args.case.now) c.args.thread c.loop-i.i c.event-event.result c.loop-i.depth c.depth_after-depth.result
      (omega (arith, held_few c.args.case.now, c.count-i-end.ensures)) c.event-event.ensures c.loop-i.invariant.0 c.depth_after-depth.ensures.locks,
  lock_more (execution c.args.case.now) c.args.thread c.loop-i.i c.event-event.result c.loop-i.depth c.loop-i.outermost c.outermost_after-outermost.result c.event-event.ensures
      c.loop-i.invariant.0 c.loop-i.invariant.1 c.outermost_after-outermost.ensures,
  first_more _ c.loop-i.i c.loop-i.invariant.2
      (unlock_is (execution c.args.case.now) c.args.thread c.loop-i.i c.event-event.result c.loop-i.depth None c.event-event.ensures c.loop-i.invariant.0 (c.in_ok-decline_if.ensures ∙ ap (λ (b : Bool). fault_if b LocksNotPaired c.loop-i.i) c.is_unmatched.ensures)),
  lock_within _ c.loop-i.i c.loop-i.outermost c.outermost_after-outermost.result c.loop-i.invariant.3 c.outermost_after-outermost.ensures,
)

pub returns-in_err-decline_if : goal.returns-in_err-decline_if
returns-in_err-decline_if c =
    let p = err_from_is_err_and c.from_residual.result c.from_residual.ensures.1 in
    rw (p.1, p.2)
    (unlock_first (execution c.args.case.now) c.args.thread c.loop-i.i c.in_err-decline_if.field-0.0 (omega (arith, c.count-i-end.ensures)) c.loop-i.invariant.2
    (unlock_is (execution c.args.case.now) c.args.thread c.loop-i.i c.event-event.result c.loop-i.depth (Some c.in_err-decline_if.field-0.0) c.event-event.ensures c.loop-i.invariant.0
    (c.in_err-decline_if.ensures ∙ ap (λ (b : Bool). fault_if b LocksNotPaired c.loop-i.i) c.is_unmatched.ensures)))

pub returns : goal.returns
returns c =
    open_first (execution c.args.case.now) c.args.thread c.loop-i.i c.loop-i.depth c.loop-i.outermost _ (omega (arith, c.count-i-end.ensures)) c.loop-i.invariant.2 c.loop-i.invariant.0
    c.loop-i.invariant.1 c.decline_if-2.ensures
