use Rattle.std.proofs.Common.{sym, ap, ◌∙◌, arith, rules}
use Rattle.relations.specs.View.{rel, size}
use Rattle.sources.specs.Snapshot.{execution}
use Rattle.sources.proofs.Copying.{held_few}
use Rattle.wellformed.proofs.Locking.{depth_none, depth_more, lock_none, lock_more}
use Rattle.basis.proofs.Closing.{walk_none, walk_skip, walk_add, walk_all}
use Rattle.basis.proofs.sections.add_sections.Goals as goal
use Rattle.basis.proofs.sections.add_sections.Goals.{then-is_last_unlock, else-is_last_unlock}

pub loop-i-init : goal.loop-i-init
loop-i-init c = search (rules, depth_none, lock_none, walk_none)

pub loop-i-preserved : goal.loop-i-preserved
loop-i-preserved c =
    let x = execution c.args.case.now in
    let t = c.args.thread in
    let i = c.loop-i.i in
    let e = c.event-event.result in
    let d = c.loop-i.depth in
    let o = c.loop-i.outermost in
    let e_is = c.event-event.ensures in
    let d_is = c.loop-i.invariant.0 in
    let o_is = c.loop-i.invariant.1 in (
      depth_more x t i e d c.depth_after-depth.result (omega (arith, held_few c.args.case.now, c.count-i-end.ensures)) e_is d_is
          c.depth_after-depth.ensures.locks,
      lock_more x t i e d o c.outermost_after-outermost.result e_is d_is o_is c.outermost_after-outermost.ensures,
      elim c.if-is_last_unlock.branch [
        | then-is_last_unlock w ↦ ap rel w.found-is
            ∙ walk_add x t i (size c.loop-i.found) o e d (rel c.args.found.now) (rel c.loop-i.found) _
            (omega (arith, c.requires, c.loop-i.invariant.3, c.count-i-end.ensures)) e_is d_is o_is c.loop-i.invariant.2
            (sym c.is_last_unlock.ensures ∙ w.if-is_last_unlock.true) w.add.ensures.pairs
        | else-is_last_unlock w ↦ ap rel w.found-is
            ∙ walk_skip x t i e d (rel c.args.found.now) _ e_is d_is c.loop-i.invariant.2 (sym c.is_last_unlock.ensures ∙ w.if-is_last_unlock.false)
      ],
      elim c.if-is_last_unlock.branch [
        | then-is_last_unlock w ↦ ap size w.found-is ∙ w.add.ensures.events ∙ c.loop-i.invariant.3
        | else-is_last_unlock w ↦ ap size w.found-is ∙ c.loop-i.invariant.3
      ],
    )

pub returns : goal.returns
returns c = search (rules, walk_all)
