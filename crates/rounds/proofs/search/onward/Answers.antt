use Rattle.std.proofs.Common.{ap, ◌∙◌, arith, rules}
use Rattle.rows.specs.Row.{bit}
use Rattle.precedence.specs.Rows.{cells}
use Rattle.precedence.proofs.Largest.{most_le}
use Rattle.rounds.specs.Layers.{raised}
use Rattle.rounds.proofs.Searching.{onward_period, raised_some}
use Rattle.rounds.proofs.search.onward.Goals as goal

pub raise-requires : goal.raise-requires
raise-requires c = search (rules, most_le)

pub holder-requires : goal.holder-requires
holder-requires c =
    record { some = raised_some c.best-by_period.result c.best-by_section.result (omega (arith, c.if-by_section-raise.true, c.raise.ensures)); largest = c.best-by_period.ensures }

pub returns-then-by_section-raise : goal.returns-then-by_section-raise
returns-then-by_section-raise c =
    let raised_is = ap raised c.best-by_period.ensures in
    let some = raised_some c.best-by_period.result c.best-by_section.result (omega (arith, c.if-by_section-raise.true, c.raise.ensures)) in
    onward_period (bit c.args.up) (bit c.args.down) (cells c.args.row.now) c.holder.result c.holder.ensures.room (omega arith) (omega arith)
    c.holder.ensures.member (c.holder.ensures.entry ∙ c.best-by_period.ensures)
