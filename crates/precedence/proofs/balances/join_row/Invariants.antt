use Rattle.std.proofs.Common.{max}
use Rattle.grace.specs.Sheet.{joined}
use Rattle.precedence.specs.Rows.{cells}
use Rattle.precedence.proofs.Cells.{Upto}
use Rattle.precedence.proofs.balances.join_row.Given as goal

abbrev pub invariant-loop-b : goal.invariant-loop-b
invariant-loop-b l = Upto l.row l.initial.row l.b (λ b. max (cells l.initial.row b) (joined l.relay.periods l.relay.sections l.reach (cells l.on b)))
