use Rattle.std.proofs.Common.{rules}
use Rattle.casewriter.proofs.Laying.{put_none, word_more}
use Rattle.casewriter.proofs.bytes.Pen.put_word.Goals as goal

pub loop-byte-init : goal.loop-byte-init
loop-byte-init c = search (rules, put_none)

pub loop-byte-preserved : goal.loop-byte-preserved
loop-byte-preserved c = search (rules, word_more)
