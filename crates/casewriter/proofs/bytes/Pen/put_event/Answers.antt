use Rattle.std.proofs.Common.{ap, ◌∙◌}
use Rattle.caselines.specs.Lines.{letter_name}
use Rattle.casewriter.specs.Laid.{place_field}
use Rattle.casewriter.proofs.Laying.{then_put, spelled_so}
use Rattle.casewriter.proofs.Spelled.{event_parts}
use Rattle.casewriter.proofs.bytes.Pen.put_event.Goals as goal

pub returns-clause-put : goal.returns-clause-put
returns-clause-put c =
    let begun = spelled_so (c.word.ensures.name ∙ ap letter_name c.from-letter.ensures) c.put_word.ensures.put in
    let placed = spelled_so (ap (λ l. place_field l c.args.place) c.from-letter.ensures) c.put_place.ensures.put in
    spelled_so (event_parts c.args.sort c.args.thread c.args.place)
    (then_put (then_put (then_put (then_put (then_put begun c.put_field.ensures.put) c.put.ensures.put) (spelled_so c.word-2.ensures.name c.put_word-2.ensures.put)) placed) c.put-2.ensures.put)
