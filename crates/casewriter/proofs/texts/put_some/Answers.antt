use Rattle.std.proofs.Common.{rules}
use Rattle.casewriter.proofs.Laying.{put_none}
use Rattle.casewriter.proofs.texts.put_some.Goals as goal

pub returns-in_default-clause-put : goal.returns-in_default-clause-put
returns-in_default-clause-put c = search (rules, put_none)
