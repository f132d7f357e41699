use Rattle.std.proofs.Common.{rules}
use Rattle.casewriter.proofs.Laying.{laid_front}
use Rattle.casewriter.proofs.texts.write_snapshot.Goals as goal

pub returns : goal.returns
returns c = search (rules, laid_front)
