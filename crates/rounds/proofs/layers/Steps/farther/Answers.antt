use Rattle.std.proofs.Common.{◌≡◌, ◌≤◌, length, ◌∙◌, arith, rules}
use Rattle.std.proofs.lemmas.List.{length-take-le}
use Rattle.relations.specs.View.{rel}
use Rattle.relations.proofs.Ranges.{rel_past}
use Rattle.precedence.specs.Rows.{cells}
use Rattle.precedence.proofs.Cells.{front_more, front_cells}
use Rattle.precedence.proofs.Largest.{most_le}
use Rattle.rounds.specs.Layers.{further}
use Rattle.rounds.proofs.Layering.{further_none}
use Rattle.rounds.proofs.layers.Steps.farther.Goals as goal

pub raise-requires : goal.raise-requires
raise-requires c = search (rules, most_le)

pub loop-a-preserved : goal.loop-a-preserved
unfolding further
loop-a-preserved c = search (rules, front_more)

pub returns : goal.returns
returns c =
    let x = c.args.self.now in
    let few : c.max-events.result ≤ 64 = omega (arith, x.period.few, x.section.few) in
    let long : length c.loop-a.entry-items ≡ c.max-events.result = c.loop-a.auto.entry-items ∙ length-take-le _ _ (omega arith) in
    front_cells c.loop-a.entry-items c.max-events.result _ long few (λ k l. c.loop-a.invariant k (omega arith))
    (λ a l. further_none (rel x.period) (rel x.section) (cells c.args.row.now) a
    (λ k. rel_past x.period a k (omega arith)) (λ k. rel_past x.section a k (omega arith)))
