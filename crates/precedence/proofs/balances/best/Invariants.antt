use Rattle.std.proofs.Common.{◌≡◌, max}
use Rattle.rows.specs.Row.{bit}
use Rattle.grace.specs.Sheet.{most}
use Rattle.precedence.specs.Rows.{cells}
use Rattle.precedence.proofs.balances.best.Given as goal

abbrev pub invariant-loop-c : goal.invariant-loop-c
invariant-loop-c l = max l.most (most 64 (bit l.c-iterator.rest) (cells l.row)) ≡ most 64 (bit l.set) (cells l.row)
