use Rattle.std.proofs.Common.{rules}
use Rattle.std.proofs.Output.{has_written_append, has_written_of_eq}
use Rattle.telling.specs.Lines.{table_lines}
use Rattle.telling.proofs.Turns.{table_more}
use Rattle.telling.proofs.lines.TableLinesDisplay.fmt.Goals.{then-has+in_ok-write, else-has}
use Rattle.telling.proofs.lines.TableLinesDisplay.fmt.Goals as goal

pub loop-lock-init : goal.loop-lock-init
unfolding table_lines
loop-lock-init g c = search rules

pub loop-lock-preserved : goal.loop-lock-preserved
loop-lock-preserved g c p =
    has_written_of_eq _ _ _ _ _ (table_more c.args.self.now.0.shape c.args.self.now.0.sheet.now c.loop-lock.lock)
    (has_written_append _ _ _ _ _ _ (c.loop-lock.invariant p)
    (elim c.if-has.branch [ then-has+in_ok-write w ↦ search rules | else-has w ↦ search rules ]))
