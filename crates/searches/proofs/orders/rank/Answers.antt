use Rattle.std.proofs.Common.{ltb, count_by, ap, ◌∙◌, arith}
use Rattle.std.proofs.lemmas.List.{take_all}
use Rattle.searches.specs.Keys.{rank}
use Rattle.searches.proofs.Ranking.{counted}
use Rattle.searches.proofs.orders.rank.Goals as goal

pub returns : goal.returns
unfolding rank
returns c =
    c.loop-other.invariant ∙ ap (count_by (λ k. ltb k c.args.key)) (take_all _ c.args.keys.now (omega arith)) ∙ counted c.args.keys.now (λ k. ltb k c.args.key)
