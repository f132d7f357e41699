use Rattle.std.proofs.Common.{cond, replicate}
use Rattle.rows.specs.Row.{bit}
use Rattle.precedence.proofs.Cells.{Upto}
use Rattle.precedence.proofs.balances.link_row.Given as goal

abbrev pub invariant-loop-b : goal.invariant-loop-b
invariant-loop-b l = Upto l.entry-items (replicate 64 0) l.b (λ b. cond (bit l.targets b) 128 0)
