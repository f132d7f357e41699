use Rattle.casewriter.proofs.Laying.{then_put}
use Rattle.casewriter.proofs.bytes.Pen.put_field.Goals as goal

pub returns-clause-put : goal.returns-clause-put
returns-clause-put c = then_put c.put.ensures.put c.put_number.ensures.put
