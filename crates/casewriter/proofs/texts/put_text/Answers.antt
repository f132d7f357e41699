use Rattle.std.proofs.Common.{◌∙◌, rules}
use Rattle.sources.specs.Snapshot.{execution}
use Rattle.casetext.specs.Text.{text_of}
use Rattle.casewriter.specs.Laid.{Put}
use Rattle.casewriter.proofs.Laying.{then_put, spelled_so}
use Rattle.casewriter.proofs.Gathering.{text_parts}
use Rattle.casewriter.proofs.texts.put_text.Goals as goal

pub returns : goal.returns
returns c =
    let laid : Put 0 (text_of (execution c.args.case.now)) c.args.buffer.now c.put_ties.new.pen.buffer.now c.put_ties.new.pen.at =
    spelled_so (text_parts (execution c.args.case.now) c.count.result c.count_ties.result c.count.ensures c.count_ties.ensures)
    (then_put (then_put (then_put c.put_line.ensures.put c.put_events.ensures.put) c.put_line-2.ensures.put) c.put_ties.ensures.put) in
    let same = c.put_ties.ensures.same ∙ c.put_line-2.ensures.same ∙ c.put_events.ensures.same ∙ c.put_line.ensures.same in
    search rules
