use Rattle.std.proofs.Common.{length, rules}
use Rattle.tables.specs.Tables.{sealed_plain, held_execution}
use Rattle.casewriter.proofs.Returning.{copy_written}
use Rattle.casewriter.proofs.whole.write.Goals as goal

pub returns : goal.returns
returns c =
    let sourced = c.in-Ok.ensures in
    let written = copy_written (length c.args.events.now) (length c.args.ties.now) (sealed_plain c.args.case.now c.args.events.now c.args.ties.now) c.in_ok-copy.copy
    (held_execution c.in-Ok.source.count c.in-Ok.source.events.now c.in-Ok.source.ties.now)
    c.args.buffer.now c.write_snapshot.new.buffer c.write_snapshot.result sourced.0 sourced.1 c.in_ok-copy.ensures c.write_snapshot.ensures in
    search rules
