use Rattle.rows.specs.Row.{bit}
use Rattle.grace.specs.Sheet.{relayed}
use Rattle.precedence.specs.Rows.{sheet}
use Rattle.precedence.proofs.Joining.{Rowed}
use Rattle.precedence.proofs.balances.add_relay.Given as goal

abbrev pub invariant-loop-a : goal.invariant-loop-a
invariant-loop-a l = Rowed l.m l.initial.m l.a (relayed (sheet l.initial.m) (bit l.relay.into) (bit l.relay.out) l.relay.periods l.relay.sections)
