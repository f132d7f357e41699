use Rattle.std.proofs.Common.{◌∙◌}
use Rattle.sources.proofs.Layers.{lowered_row}
use Rattle.sources.proofs.lowered.LoweredCaseSource.row.Goals as goal

pub returns : goal.returns
returns g c =
    c.row.ensures
    ∙ lowered_row c.args.self.now.sorts (g.S.CaseSource.meaning c.args.self.now.below) c.args.relation c.args.event
