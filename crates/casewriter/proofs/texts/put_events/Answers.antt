use Rattle.std.proofs.Common.{◌∙◌, arith, rules}
use Rattle.sources.specs.Snapshot.{execution}
use Rattle.casewriter.proofs.Laying.{put_none, then_put, spelled_so}
use Rattle.casewriter.proofs.Gathering.{event_more}
use Rattle.casewriter.proofs.texts.put_events.Goals as goal

pub loop-i-init : goal.loop-i-init
loop-i-init c = search (rules, put_none)

pub loop-i-preserved : goal.loop-i-preserved
loop-i-preserved c = (
  c.put_some.ensures.same ∙ c.loop-i.invariant.0,
  spelled_so (event_more (execution c.args.case.now).events c.loop-i.i c.event.result c.event_line.result (omega (arith, c.count-i-end.ensures)) c.event.ensures c.event_line.ensures)
      (then_put c.loop-i.invariant.1 c.put_some.ensures.put),
  omega (arith, c.loop-i.invariant.2, c.put_some.ensures.within),
)
