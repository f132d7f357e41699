use Rattle.casetext.proofs.Refusing.{refused_read}
use Rattle.casetext.proofs.reading.read_into.Goals as goal

pub returns-in-Err : goal.returns-in-Err
returns-in-Err c =
    refused_read c.args.text.now c.args.events.now c.args.ties.now c.open.new.events c.open.new.ties c.take_lines.new.events c.take_lines.new.ties
    c.open-in-Err.new.events c.open-in-Err.new.ties c.in-Ok.case c.in-Err.fault c.open-in-Err.result
    c.open.auto.events c.open.auto.ties c.take_lines.auto.events c.take_lines.auto.ties
    c.in-Ok.ensures c.in-Err.ensures.scanned c.take_lines.ensures.tail c.open-in-Err.ensures
