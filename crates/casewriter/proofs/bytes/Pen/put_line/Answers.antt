use Rattle.caselines.specs.Lines.{spelled}
use Rattle.casewriter.proofs.bytes.Pen.put_line.Goals as goal

pub returns-in-Events-clause-put : goal.returns-in-Events-clause-put
unfolding spelled
returns-in-Events-clause-put c = rw c.in-Events.is c.put_count.ensures.put

pub returns-in-Ties-clause-put : goal.returns-in-Ties-clause-put
unfolding spelled
returns-in-Ties-clause-put c = rw c.in-Ties.is c.put_count-in-Ties.ensures.put
