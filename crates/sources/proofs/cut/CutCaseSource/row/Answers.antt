use Rattle.std.proofs.Common.{◌∙◌}
use Rattle.sources.proofs.Layers.{cut_hidden, cut_shown}
use Rattle.sources.proofs.cut.CutCaseSource.row.Goals as goal

pub returns-then-is_hidden : goal.returns-then-is_hidden
returns-then-is_hidden g c =
    cut_hidden c.args.self.now.relation c.args.self.now.event (g.S.CaseSource.meaning c.args.self.now.below) c.args.relation c.args.event
    c.if-is_hidden.ensures

pub returns-else-is_hidden : goal.returns-else-is_hidden
returns-else-is_hidden g c =
    c.row.ensures
    ∙ cut_shown c.args.self.now.relation c.args.self.now.event (g.S.CaseSource.meaning c.args.self.now.below) c.args.relation c.args.event
    c.if-is_hidden.ensures
