use Rattle.std.proofs.Common.{◌*◌, ◌≤◌}
use Rattle.bench_precedence.proofs.section_first.Given as goal

abbrev pub invariant-loop-row : goal.invariant-loop-row
invariant-loop-row v = v.total ≤ 64 * v.row-index
