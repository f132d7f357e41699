use Rattle.std.proofs.Common.{◌≡◌, ◌+◌, length, drop, ap, ◌∙◌, arith}
use Rattle.std.proofs.lemmas.List.{drop-set-lt}
use Rattle.tables.specs.Tables.{tables}
use Rattle.casetext.proofs.Doing.{accepted_as, enter_located}
use Rattle.casetext.proofs.steps.enter_at.Goals as goal

pub returns-clause-does : goal.returns-clause-does
returns-clause-does c =
    let accepted = accepted_as c.enter.result c.map_err.result c.in_ok-map_err.field-0 c.in_ok-map_err.was c.map_err.ensures.variant in
    enter_located (length c.args.events.now) (length c.args.ties.now) c.args.line accepted.0 c.args.event
    (tables c.args.case.now c.args.events.now c.args.ties.now) (tables c.enter.new.self c.enter.new.events c.args.ties.now)
    (rw accepted.1 at c.enter.ensures.does)

pub returns-clause-tail : goal.returns-clause-tail
returns-clause-tail c =
    let accepted = accepted_as c.enter.result c.map_err.result c.in_ok-map_err.field-0 c.in_ok-map_err.was c.map_err.ensures.variant in
    let wrote = rw accepted.1 at c.enter.ensures.writes in
    let counted : c.enter.new.self.count ≡ c.args.case.now.count + 1 = ap (λ t. t.count) wrote in
    ap (λ t. drop 64 t.records) wrote ∙ drop-set-lt 64 c.args.events.now c.args.case.now.count c.args.event (omega (arith, c.enter.new.self.room))
