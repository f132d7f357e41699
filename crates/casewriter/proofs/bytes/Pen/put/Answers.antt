use Rattle.std.proofs.Common.{rules}
use Rattle.casewriter.proofs.Laying.{put_one, put_past}
use Rattle.casewriter.proofs.bytes.Pen.put.Goals as goal
use Rattle.casewriter.proofs.bytes.Pen.put.Goals.{then-self, else-self}

pub returns-clause-put : goal.returns-clause-put
returns-clause-put c = search (rules, put_one, put_past)
