use Rattle.std.specs.Fmt.{HasWritten, IsPlainFormatter}
use Rattle.telling.specs.Lines.{table_lines}
use Rattle.telling.proofs.lines.TableLinesDisplay.fmt.Given as goal

abbrev pub invariant-loop-lock : goal.invariant-loop-lock
invariant-loop-lock g l =
    IsPlainFormatter l.initial.f → HasWritten g.W.Write.write_str_gives l.initial.f (table_lines l.fn.self.0.shape l.fn.self.0.sheet.now l.lock) l.f
