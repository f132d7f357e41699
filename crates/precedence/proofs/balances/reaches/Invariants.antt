use Rattle.std.proofs.Common.{replicate}
use Rattle.rows.specs.Row.{bit}
use Rattle.grace.specs.Sheet.{most}
use Rattle.precedence.specs.Rows.{sheet}
use Rattle.precedence.proofs.Cells.{Upto}
use Rattle.precedence.proofs.balances.reaches.Given as goal

abbrev pub invariant-loop-d : goal.invariant-loop-d
invariant-loop-d l = Upto l.entry-items (replicate 64 0) l.d (λ d. most 64 (bit l.into) (sheet l.m d))
