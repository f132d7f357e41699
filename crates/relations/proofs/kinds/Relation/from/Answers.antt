use Rattle.std.proofs.Common.{rules, arith}
use Rattle.relations.specs.View.{rel}
use Rattle.relations.proofs.Built.{rows_are}
use Rattle.relations.proofs.Ranges.{on_more, on_rel, on_from}
use Rattle.relations.proofs.Rows.{from_row}
use Rattle.relations.proofs.kinds.Relation.from.Goals as goal

pub returns-clause-pairs : goal.returns-clause-pairs
unfolding rel
returns-clause-pairs c =
    rows_are c.by_rows.result _ _ c.by_rows.ensures.events (on_more _ _ _ (omega arith) (on_from _ _ _ (on_rel c.args.self.now))) c.by_rows.ensures.rows
    (λ a w l fits p b k. from_row c.args.self.now.rows a c.args.sources w (omega arith) (search rules) b (omega arith))
