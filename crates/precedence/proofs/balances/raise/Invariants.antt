use Rattle.std.proofs.Common.{max}
use Rattle.precedence.specs.Rows.{cells}
use Rattle.precedence.proofs.Cells.{Upto}
use Rattle.precedence.proofs.balances.raise.Given as goal

abbrev pub invariant-loop-b : goal.invariant-loop-b
invariant-loop-b l = Upto l.row l.initial.row l.b (λ b. max (cells l.initial.row b) (cells l.other b))
