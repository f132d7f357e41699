use Rattle.std.specs.Fmt.{HasWritten, IsPlainFormatter}
use Rattle.telling.specs.Lines.{section_lines}
use Rattle.telling.proofs.lines.SectionLinesDisplay.fmt.Given as goal

abbrev pub invariant-loop-period : goal.invariant-loop-period
invariant-loop-period g l =
    IsPlainFormatter l.initial.f → HasWritten g.W.Write.write_str_gives l.initial.f (section_lines l.lock l.word l.periods l.period) l.f
