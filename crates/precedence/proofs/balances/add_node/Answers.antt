use Rattle.std.proofs.Common.{rules}
use Rattle.std.proofs.Common.{not, sym, ap, ◌∙◌}
use Rattle.rows.specs.Row.{bit}
use Rattle.rows.proofs.Bits.{bit_zero}
use Rattle.grace.proofs.Sheets.{turns_idle}
use Rattle.precedence.specs.Rows.{sheet}
use Rattle.precedence.proofs.Turning.{turns_when, relayed_none}
use Rattle.precedence.proofs.balances.add_node.Goals as goal

pub returns-then-relay-eq0 : goal.returns-then-relay-eq0
returns-then-relay-eq0 c = search (rules, bit_zero, turns_idle, relayed_none)

pub returns-then-meets : goal.returns-then-meets
returns-then-meets c =
    let e = turns_when (sheet c.args.m.now) (bit c.args.relay.now.into) (bit c.args.relay.now.out) (bit c.closing.result) _ _ _ c.reaches-reach.ensures c.closing.ensures in
    record { calm = sym (ap not (sym e ∙ sym c.meets.ensures ∙ c.if-meets.true)); more = tt }

pub add_relay-requires : goal.add_relay-requires
add_relay-requires c =
    let e = turns_when (sheet c.args.m.now) (bit c.args.relay.now.into) (bit c.args.relay.now.out) (bit c.closing.result) _ _ _ c.reaches-reach.ensures c.closing.ensures in
    record { reached = c.reaches-reach.ensures; fits = c.requires.fits (sym e ∙ sym c.meets.ensures ∙ c.if-meets.false) }

pub returns : goal.returns
returns c =
    let e = turns_when (sheet c.args.m.now) (bit c.args.relay.now.into) (bit c.args.relay.now.out) (bit c.closing.result) _ _ _ c.reaches-reach.ensures c.closing.ensures in
    record { calm = sym (ap not (sym e ∙ sym c.meets.ensures ∙ c.if-meets.false)); more = c.add_relay.ensures }
