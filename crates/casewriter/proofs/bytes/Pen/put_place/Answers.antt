use Rattle.std.proofs.Common.{rules}
use Rattle.casewriter.proofs.Laying.{put_none}
use Rattle.casewriter.proofs.bytes.Pen.put_place.Goals as goal

pub returns-in-Fence-clause-put : goal.returns-in-Fence-clause-put
returns-in-Fence-clause-put c = search (rules, put_none)
