use Rattle.std.proofs.Common.{◌≡◌, ℕ, max}
use Rattle.rows.specs.Row.{bit}
use Rattle.grace.specs.Sheet.{most}
use Rattle.precedence.specs.Rows.{cells, sheet}
use Rattle.precedence.proofs.balances.onward.Given as goal

abbrev pub invariant-loop-d : goal.invariant-loop-d
invariant-loop-d l = (b : ℕ) → max (cells l.all b) (most 64 (bit l.d-iterator.rest) (λ d. sheet l.m d b)) ≡ most 64 (bit l.set) (λ d. sheet l.m d b)
