use Rattle.std.proofs.Common.{take}
use Rattle.std.specs.List.{flat_map}
use Rattle.std.specs.Fmt.{HasWritten, IsPlainFormatter}
use Rattle.rulings.specs.Rules.{rules}
use Rattle.rulings.specs.Rulings.{report_of}
use Rattle.telling.specs.Lines.{report_line}
use Rattle.telling.proofs.lines.ReportLinesDisplay.fmt.Given as goal

abbrev pub invariant-loop-rule : goal.invariant-loop-rule
invariant-loop-rule g l =
    IsPlainFormatter l.initial.f → HasWritten g.W.Write.write_str_gives l.initial.f (flat_map (λ k. report_line k (report_of l.reports k)) (take l.rule-index rules)) l.f
