use Rattle.std.proofs.Common.{suc, false, refl, arith}
use Rattle.std.proofs.lemmas.Bool.{false≢true}
use Rattle.relations.proofs.Ranges.{on_rel, on_all}
use Rattle.searches.proofs.Cycling.{shortest_from, cycle_comes_back, power_at, power_more, power_none}
use Rattle.searches.proofs.Walking.{walks_one, no_closed}
use Rattle.searches.proofs.cycles.shortest_cycle.Goals as goal

pub loop-steps-init : goal.loop-steps-init
loop-steps-init c = (walks_one _ (on_all c.args.x.now), λ m b some l. absurd (omega arith))

pub trace-requires : goal.trace-requires
trace-requires c = record { some = omega arith; few = omega arith; closed = power_at _ _ _ c.loop-steps.invariant.0 _ _ _ c.in-Some.ensures.loop }

pub returns-in-Some : goal.returns-in-Some
returns-in-Some c = record {
  none = (λ e. absurd (false≢true e), λ h. absurd (cycle_comes_back _ _ (on_all c.args.x.now) c.trace.ensures.cycle h));
  found =
      shortest_from c.loop-steps.steps _ _ (on_all c.args.x.now) c.trace.ensures.cycle c.trace.ensures.long c.loop-steps.invariant.1
      (λ b l. power_at _ _ _ c.loop-steps.invariant.0 b b false (c.in-Some.ensures.first b (omega (arith, c.trace.ensures.first))));
}

pub loop-steps-preserved : goal.loop-steps-preserved
loop-steps-preserved c =
    (power_more _ _ _ c.loop-steps.invariant.0 _ c.seq-power.ensures.pairs, power_none _ _ _ c.loop-steps.invariant.0 c.loop-steps.invariant.1 c.in_default.ensures)

pub returns-else-acyclic-clause-none : goal.returns-else-acyclic-clause-none
returns-else-acyclic-clause-none c =
    (λ _. no_closed _ _ (omega arith) (on_rel c.args.x.now) (λ m b l. c.loop-steps.invariant.1 (suc m) b (omega arith) (omega arith)), λ _. refl)

pub returns-in_default-clause-none : goal.returns-in_default-clause-none
returns-in_default-clause-none c =
    let none = power_none _ _ _ c.loop-steps.invariant.0 c.loop-steps.invariant.1 c.in_default.ensures in
    (λ _. no_closed _ _ (omega arith) (on_rel c.args.x.now) (λ m b l. none (suc m) b (omega arith) (omega arith)), λ _. refl)
