use Rattle.std.proofs.Common.{◌*◌, ◌≤◌}
use Rattle.bench_judge.proofs.section_first.Given as goal

abbrev pub invariant-loop-row : goal.invariant-loop-row
invariant-loop-row l = l.pairs ≤ 64 * l.row-index
