use Rattle.std.proofs.Common.{◌≡◌, length}
use Rattle.bench_judge.proofs.judged.Given as goal

abbrev pub invariant-loop : goal.invariant-loop
invariant-loop l = length l.sheet ≡ 64
