use Rattle.std.proofs.Common.{replicate, refl, arith}
use Rattle.relations.proofs.Ranges.{on_all}
use Rattle.searches.specs.View.{listed}
use Rattle.searches.proofs.Cycling.{trail_first, trail_goes, trail_more, trail_cycle}
use Rattle.searches.proofs.Walking.{closed_begins}
use Rattle.searches.proofs.cycles.trace.Goals as goal

pub approaches-ways-requires : goal.approaches-ways-requires
approaches-ways-requires c = record { event = closed_begins _ _ _ (on_all c.args.x.now) c.requires.some c.requires.closed; few = omega arith }

pub overflow_cast-events : goal.overflow_cast-events
overflow_cast-events c = omega (arith, closed_begins _ _ _ (on_all c.args.x.now) c.requires.some c.requires.closed)

pub loop-i-init : goal.loop-i-init
loop-i-init c = trail_first _ (replicate 64 0) _ _ refl (omega arith) c.requires.closed

pub onward-requires : goal.onward-requires
onward-requires c = trail_goes _ _ _ _ _ _ _ (omega arith) (omega arith) c.loop-i.invariant c.approaches-ways.ensures c.row.ensures

pub loop-i-preserved : goal.loop-i-preserved
loop-i-preserved c =
    trail_more _ _ _ _ _ _ _ _ (omega arith) (omega arith) (omega arith) c.loop-i.invariant c.approaches-ways.ensures c.row.ensures
    c.onward.ensures.target c.onward.ensures.way

pub returns : goal.returns
unfolding listed
returns c =
    let t = trail_cycle _ _ _ _ _ (omega arith) (omega arith) (omega arith) c.loop-i.invariant in
    record { cycle = t.0; long = t.1; first = t.2 }
