use Rattle.std.proofs.Common.{take, sym, ◌∙◌}
use Rattle.sources.proofs.Layers.{length_lower_all}
use Rattle.sources.proofs.lowered.LoweredCaseSource.count.Goals as goal

pub returns : goal.returns
returns g c = c.count.ensures ∙ sym (length_lower_all (take 64 c.args.self.now.sorts) (g.S.CaseSource.meaning c.args.self.now.below).events)
