use Rattle.std.proofs.Common.{Bool, ap, ◌∙◌}
use Rattle.rows.specs.Row.{bit}
use Rattle.wellformed.specs.Walk.{source_if}
use Rattle.wellformed.proofs.ties.Ends.with_row.Goals as goal

pub returns-clause-sources : goal.returns-clause-sources
returns-clause-sources c = c.source_if.ensures ∙ ap (λ (t : Bool). source_if t c.args.a (bit c.args.self.sources)) c.has_below.ensures
