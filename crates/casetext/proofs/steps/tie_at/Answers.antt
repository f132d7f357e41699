use Rattle.std.proofs.Common.{length}
use Rattle.tables.specs.Tables.{tables}
use Rattle.casetext.proofs.Doing.{accepted_as, tie_located, tie_tail}
use Rattle.casetext.proofs.steps.tie_at.Goals as goal

pub returns-clause-does : goal.returns-clause-does
returns-clause-does c =
    let accepted = accepted_as c.tie.result c.map_err.result c.in_ok-map_err.field-0 c.in_ok-map_err.was c.map_err.ensures.variant in
    tie_located (length c.args.events.now) (length c.args.ties.now) c.args.line c.number.result c.args.relation c.args.first c.args.second
    (tables c.args.case.now c.args.events.now c.args.ties.now) (tables c.args.case.now c.args.events.now c.tie.new.ties)
    accepted.0 c.number.ensures (rw (accepted.1, c.from.ensures) at c.tie.ensures.does)

pub returns-clause-tail : goal.returns-clause-tail
returns-clause-tail c =
    let accepted = accepted_as c.tie.result c.map_err.result c.in_ok-map_err.field-0 c.in_ok-map_err.was c.map_err.ensures.variant in
    tie_tail (length c.args.events.now) (length c.args.ties.now) c.number.result c.args.relation c.args.first c.args.second
    (tables c.args.case.now c.args.events.now c.args.ties.now) (tables c.args.case.now c.args.events.now c.tie.new.ties)
    accepted.0 c.number.ensures c.args.case.now.room (rw (accepted.1, c.from.ensures) at c.tie.ensures.does) (rw (accepted.1, c.from.ensures) at c.tie.ensures.writes)
