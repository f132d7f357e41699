use Rattle.std.proofs.Common.{sym, ap, ◌∙◌, rules}
use Rattle.rows.specs.Row.{Set, bit}
use Rattle.rows.proofs.Words.{dropped_parts, dropped_from}
use Rattle.precedence.specs.Rows.{cells}
use Rattle.precedence.proofs.Cells.{cell_at}
use Rattle.rounds.proofs.search.holder.Goals as goal
use Rattle.grace.proofs.Sheets.{most_met}

pub returns-then-row-c : goal.returns-then-row-c
returns-then-row-c c = search (rules, cell_at)

pub loop-c-preserved : goal.loop-c-preserved
loop-c-preserved c =
    let taken = c.in-Some.ensures.steps in (
      λ b h. c.loop-c.invariant.0 b (dropped_parts c.in-Some.c (bit c.loop-c.c-iterator.rest) b (sym (ap (λ (s : Set). s b) taken.left) ∙ h)).1,
      λ b e f.
          ap (λ (s : Set). s b) taken.left
          ∙ dropped_from c.in-Some.c (bit c.loop-c.c-iterator.rest) b
          (λ z. c.if-row-c.false (sym (cell_at c.args.row.now c.in-Some.c taken.lowest.room) ∙ sym (ap (cells c.args.row.now) z) ∙ f)) (c.loop-c.invariant.1 b e f),
    )

pub unreachable-requires : goal.unreachable-requires
unreachable-requires c = search (rules, most_met)
