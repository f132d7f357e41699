use Rattle.std.proofs.Common.{rules, arith}
use Rattle.relations.specs.View.{rel}
use Rattle.relations.proofs.Built.{rows_are}
use Rattle.relations.proofs.Ranges.{on_seq}
use Rattle.relations.proofs.Rows.{seq_row}
use Rattle.relations.proofs.kinds.Relation.seq.Goals as goal

pub returns-clause-pairs : goal.returns-clause-pairs
unfolding rel
returns-clause-pairs c =
    rows_are c.by_rows.result _ _ c.by_rows.ensures.events (on_seq c.args.self.now c.args.other.now _ (omega arith)) c.by_rows.ensures.rows
    (λ a w l fits p b k. seq_row c.args.self.now.rows (rel c.args.other.now) a w (omega arith) (omega arith) (search rules) b (omega arith))
