use Rattle.std.proofs.Common.{ℕ, ap, ◌∙◌, rules, arith}
use Rattle.rows.specs.Row.{bit}
use Rattle.relations.specs.View.{rel}
use Rattle.relations.proofs.Built.{rows_are}
use Rattle.relations.proofs.Ranges.{on_more, on_rel, on_to}
use Rattle.relations.proofs.Rows.{to_row}
use Rattle.relations.proofs.kinds.Relation.to.Goals as goal

pub returns-clause-pairs : goal.returns-clause-pairs
unfolding rel
returns-clause-pairs c =
    rows_are c.by_rows.result _ _ c.by_rows.ensures.events (on_more _ _ _ (omega arith) (on_to _ _ _ (on_rel c.args.self.now))) c.by_rows.ensures.rows
    (λ a w l fits p b k. ap (λ (v : ℕ). bit v b) (search rules) ∙ to_row c.args.self.now.rows a c.args.targets (omega arith) b (omega arith))
