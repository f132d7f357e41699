use Rattle.std.proofs.Common.{rules, arith}
use Rattle.relations.specs.View.{rel}
use Rattle.relations.proofs.Built.{rows_are}
use Rattle.relations.proofs.Ranges.{on_identity}
use Rattle.relations.proofs.Rows.{identity_row}
use Rattle.relations.proofs.kinds.Relation.identity.Goals as goal

pub returns-clause-pairs : goal.returns-clause-pairs
unfolding rel
returns-clause-pairs c =
    rows_are c.by_rows.result _ _ c.by_rows.ensures.events (on_identity _) c.by_rows.ensures.rows
    (λ a w l fits p b k. identity_row a _ w (omega arith) (omega arith) (search rules) b (omega arith))
