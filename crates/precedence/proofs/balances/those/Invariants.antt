use Rattle.rows.specs.Row.{bit}
use Rattle.precedence.proofs.Gathering.{Gathered}
use Rattle.precedence.proofs.balances.those.Given as goal

abbrev pub invariant-loop-e : goal.invariant-loop-e
invariant-loop-e g l = Gathered (goal.F-post g l.test) l.e (bit l.all)
