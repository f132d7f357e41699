use Rattle.std.proofs.Common.{◌≡◌, length, take, refl, ◌∙◌, arith}
use Rattle.std.proofs.lemmas.List.{length-take-le, get_or-take}
use Rattle.std.proofs.lemmas.Bool.{both_ways}
use Rattle.relations.proofs.Ranges.{on_rel}
use Rattle.searches.specs.View.{place}
use Rattle.searches.proofs.Ranking.{order_listed}
use Rattle.searches.proofs.Cycling.{no_loop}
use Rattle.searches.proofs.orders.order.Goals as goal

pub returns : goal.returns
unfolding place
returns c =
    let long : length (take c.events.result c.keys-all.result) ≡ c.events.result = length-take-le _ _ (omega arith) in
    let loopless = no_loop _ _ _ c.is_some.ensures c.if-is_some.false c.lowest_loop.ensures in
    record {
      none = ((λ _ a s. both_ways _ (loopless a) ((c.plus-closure.ensures.chains a a).1 s)), λ _. refl);
      found =
          order_listed _ _ _ _ (take c.events.result c.keys-all.result) _ (omega arith) (long ∙ c.events.ensures) (on_rel c.args.x.now) c.plus-closure.ensures.chains loopless
          c.inverse.ensures.pairs (λ a l. get_or-take _ _ a 0 (omega arith) ∙ c.keys-all.ensures a (omega arith)) (λ a l. c.loop-a.invariant.1 a (omega (arith, long)));
    }
