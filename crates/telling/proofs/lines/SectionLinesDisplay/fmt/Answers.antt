use Rattle.std.proofs.Common.{rules}
use Rattle.std.proofs.Output.{has_written_append, has_written_of_eq}
use Rattle.telling.specs.Lines.{section_lines}
use Rattle.telling.proofs.Turns.{section_more}
use Rattle.telling.proofs.lines.SectionLinesDisplay.fmt.Goals.{then-has+in_ok-write, else-has}
use Rattle.telling.proofs.lines.SectionLinesDisplay.fmt.Goals as goal

pub loop-period-init : goal.loop-period-init
unfolding section_lines
loop-period-init g c = search rules

pub loop-period-preserved : goal.loop-period-preserved
loop-period-preserved g c p =
    has_written_of_eq _ _ _ _ _ (section_more c.args.self.now.lock c.args.self.now.word c.args.self.now.periods c.loop-period.period)
    (has_written_append _ _ _ _ _ _ (c.loop-period.invariant p)
    (elim c.if-has.branch [ then-has+in_ok-write w ↦ search rules | else-has w ↦ search rules ]))
