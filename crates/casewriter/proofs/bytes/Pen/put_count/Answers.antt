use Rattle.std.proofs.Common.{rules}
use Rattle.casewriter.proofs.Laying.{then_put}
use Rattle.casewriter.proofs.bytes.Pen.put_count.Goals as goal

pub returns-clause-put : goal.returns-clause-put
returns-clause-put c = search (rules, then_put)
