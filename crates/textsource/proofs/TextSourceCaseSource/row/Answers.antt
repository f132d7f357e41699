use Rattle.std.proofs.Common.{arith}
use Rattle.textsource.specs.Meaning.{meant}
use Rattle.textsource.proofs.Meanings.{row_unknown, row_past, row_there}
use Rattle.textsource.proofs.TextSourceCaseSource.row.Goals as goal

pub returns-in_default : goal.returns-in_default
returns-in_default c = row_unknown (meant c.args.self.now.text.now) c.args.relation c.args.event c.in_default.ensures.0

pub returns-then-event-found : goal.returns-then-event-found
returns-then-event-found c =
    row_there (meant c.args.self.now.text.now) c.scan-found.result.count c.args.relation c.args.event c.targets.result c.in-Ok.known c.scan-found.result.events c.scan-found.result.ties
    c.scan-found.ensures.held (omega arith) c.in-Ok.ensures c.if-event-found.true c.targets.ensures

pub returns-else-event-found : goal.returns-else-event-found
returns-else-event-found c =
    row_past (meant c.args.self.now.text.now) c.scan-found.result.count c.args.relation c.args.event c.in-Ok.known c.scan-found.result.events c.scan-found.result.ties
    c.scan-found.ensures.held (omega arith) c.in-Ok.ensures c.if-event-found.false
