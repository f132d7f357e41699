use Rattle.std.proofs.Common.{take, Some, ap, ◌∙◌}
use Rattle.sources.proofs.Layers.{lower_some, lower_none}
use Rattle.sources.proofs.lowered.LoweredCaseSource.event.Goals as goal

pub returns-in_err-event : goal.returns-in_err-event
returns-in_err-event g c =
    rw c.from_residual.ensures
    (lower_none (take 64 c.args.self.now.sorts) (g.S.CaseSource.meaning c.args.self.now.below).events c.args.number c.in_err-event.ensures)

pub returns : goal.returns
returns g c =
    ap Some c.shown.ensures
    ∙ lower_some 64 c.args.self.now.sorts (g.S.CaseSource.meaning c.args.self.now.below).events c.args.number c.in_ok-event.field-0
    c.in_ok-event.ensures
