use Rattle.std.proofs.Common.{arith}
use Rattle.casewriter.proofs.Laying.{digit_put, number_put, number_within}
use Rattle.casewriter.proofs.bytes.Pen.+put_number.Goals as goal
use Rattle.casewriter.proofs.bytes.Pen.+put_number.Goals.{then-n-ge10, else-n-ge10}

pub returns-clause-put : goal.returns-clause-put
returns-clause-put t c = elim c.if-n-ge10.branch [
  | then-n-ge10 w ↦ number_put c.args.n w.if-n-ge10.true (omega arith) w.put_number.ensures.put (rw w.self-is at c.put.ensures.put)
  | else-n-ge10 w ↦ digit_put c.args.n w.if-n-ge10.false (rw w.self-is at c.put.ensures.put)
]

pub returns-clause-within : goal.returns-clause-within
returns-clause-within t c = number_within c.args.n (omega arith) (returns-clause-put t c)
