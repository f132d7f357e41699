use Rattle.std.proofs.Common.{rules}
use Rattle.std.proofs.Common.{◌≡◌, ℕ, ◌≤◌, length, ◌∙◌, arith}
use Rattle.std.proofs.lemmas.Bool.{cond-false}
use Rattle.std.proofs.lemmas.List.{length-take-le}
use Rattle.relations.specs.View.{rel}
use Rattle.relations.proofs.Ranges.{rel_past}
use Rattle.precedence.proofs.Cells.{front_more, front_sheet}
use Rattle.precedence.proofs.balances.links.Goals as goal

pub loop-a-preserved : goal.loop-a-preserved
loop-a-preserved c = search (rules, front_more)

pub returns : goal.returns
returns c =
    let few : c.events.result ≤ 64 = omega (arith, c.events.ensures, c.args.link.now.few) in
    let long : length c.loop-a.row-items ≡ c.events.result = c.loop-a.auto.row-items ∙ length-take-le _ _ (omega arith) in
    front_sheet c.loop-a.row-items c.events.result _ long few (λ k l. c.loop-a.invariant k (omega arith))
    (λ a b l. cond-false {A = ℕ} (rel c.args.link.now a b) 128 0 (rel_past c.args.link.now a b (omega (arith, c.events.ensures))))
