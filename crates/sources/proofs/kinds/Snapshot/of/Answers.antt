use Rattle.std.proofs.Common.{arith}
use Rattle.sources.proofs.Copying.{copied_execution}
use Rattle.sources.proofs.kinds.Snapshot.of.Goals as goal

pub returns : goal.returns
returns g c = (
  omega (arith, c.count-count.ensures),
  copied_execution (g.S.CaseSource.meaning c.args.source.now) c.copy_events.new.events c.copy_rows.new.words c.count-count.result
      c.count-count.ensures c.copy_events.ensures c.copy_rows.ensures,
)
