use Rattle.std.proofs.Common.{◌≤◌, length}
use Rattle.intake.proofs.input.fill.Given as goal

abbrev pub invariant-loop : goal.invariant-loop
invariant-loop g l = l.at ≤ length l.buffer
