use Rattle.std.proofs.Common.{refl, rules, arith}
use Rattle.relations.specs.View.{rel}
use Rattle.relations.proofs.Built.{rows_are}
use Rattle.relations.proofs.Ranges.{on_words}
use Rattle.relations.proofs.Rows.{product_row}
use Rattle.relations.proofs.kinds.Relation.product.Goals as goal

pub returns-clause-pairs : goal.returns-clause-pairs
unfolding rel
returns-clause-pairs c =
    rows_are c.by_rows.result _ _ c.by_rows.ensures.events (on_words _ c.args.n c.args.sources c.args.targets refl (omega arith) (omega arith)) c.by_rows.ensures.rows
    (λ a w l fits p b k. product_row _ c.args.n a c.args.sources c.args.targets w refl (omega arith) (search rules) b (omega arith))
