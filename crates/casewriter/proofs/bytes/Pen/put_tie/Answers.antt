use Rattle.casewriter.proofs.Laying.{then_put, spelled_so}
use Rattle.casewriter.proofs.Spelled.{tie_parts}
use Rattle.casewriter.proofs.bytes.Pen.put_tie.Goals as goal

pub returns-clause-put : goal.returns-clause-put
returns-clause-put c =
    spelled_so (tie_parts c.args.relation c.args.first c.args.second)
    (then_put (then_put (then_put (spelled_so c.word.ensures.name c.put_word.ensures.put) c.put_field.ensures.put) c.put_field-2.ensures.put) c.put.ensures.put)
