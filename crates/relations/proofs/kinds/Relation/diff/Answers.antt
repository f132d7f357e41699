use Rattle.std.proofs.Common.{ℕ, ap, ◌∙◌, rules, arith}
use Rattle.rows.specs.Row.{bit}
use Rattle.relations.specs.View.{rel}
use Rattle.relations.proofs.Built.{rows_are}
use Rattle.relations.proofs.Ranges.{on_diff}
use Rattle.relations.proofs.Rows.{diff_row}
use Rattle.relations.proofs.kinds.Relation.diff.Goals as goal

pub returns-clause-pairs : goal.returns-clause-pairs
unfolding rel
returns-clause-pairs c =
    rows_are c.by_rows.result _ _ c.by_rows.ensures.events (on_diff c.args.self.now c.args.other.now _ (omega arith)) c.by_rows.ensures.rows
    (λ a w l fits p b k. ap (λ (v : ℕ). bit v b) (search rules) ∙ diff_row c.args.self.now.rows c.args.other.now.rows a (omega arith) (omega arith) b (omega arith))
