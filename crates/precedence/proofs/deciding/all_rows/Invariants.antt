use Rattle.std.proofs.Common.{◌≡◌}
use Rattle.relations.proofs.Tables.{Done}
use Rattle.grace.specs.Deciding.{row_sheet, first_table}
use Rattle.precedence.specs.Rows.{sheet}
use Rattle.settings.specs.View.{scene}
use Rattle.precedence.proofs.deciding.all_rows.Given as goal

abbrev pub invariant-loop-l : goal.invariant-loop-l
invariant-loop-l v = (sheet v.m ≡ row_sheet (scene v.x) v.l) × Done v.row-items v.l (first_table (scene v.x))
