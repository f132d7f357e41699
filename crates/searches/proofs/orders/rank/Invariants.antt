use Rattle.std.proofs.Common.{◌≡◌, ltb, take, count_by}
use Rattle.searches.proofs.orders.rank.Given as goal

abbrev pub invariant-loop-other : goal.invariant-loop-other
invariant-loop-other l = l.below ≡ count_by (λ k. ltb k l.key) (take l.other-index l.keys)
