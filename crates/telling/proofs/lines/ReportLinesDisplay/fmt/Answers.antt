use Rattle.std.proofs.Common.{rules}
use Rattle.telling.specs.Lines.{report_lines}
use Rattle.telling.proofs.lines.ReportLinesDisplay.fmt.Goals as goal

pub returns-clause-writes : goal.returns-clause-writes
unfolding report_lines
returns-clause-writes g c = search rules
