use Rattle.std.proofs.Common.{replicate, refl, arith}
use Rattle.searches.proofs.Cycling.{ways_first, ways_more}
use Rattle.searches.proofs.cycles.approaches.Goals as goal

pub loop-j-init : goal.loop-j-init
loop-j-init c = ways_first (replicate 64 0) _ _ _ refl (omega arith) c.with.ensures

pub loop-j-preserved : goal.loop-j-preserved
loop-j-preserved c = ways_more _ _ _ _ _ _ (omega arith) (omega arith) c.inverse-back.ensures.pairs c.image.ensures c.loop-j.invariant

pub returns : goal.returns
returns c = λ j l. c.loop-j.invariant.each j (omega arith)
