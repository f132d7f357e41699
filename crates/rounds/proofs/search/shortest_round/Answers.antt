use Rattle.std.proofs.Common.{ℕ, ◌-◌, ◌<◌, sym, refl, ap, ◌∙◌, subst, arith}
use Rattle.std.proofs.lemmas.Bool.{false≢true}
use Rattle.relations.specs.View.{rel}
use Rattle.precedence.specs.Rows.{sheet}
use Rattle.settings.specs.View.{scene}
use Rattle.settings.proofs.Settings.{sound}
use Rattle.rounds.specs.View.{listed, marks}
use Rattle.rounds.proofs.Layering.{tally_none, tally_byte}
use Rattle.rounds.proofs.Running.{round_breaks}
use Rattle.rounds.proofs.Searching.{layer_more, layer_next, traced_round, traced_shortest, open_more, open_kept}
use Rattle.rounds.proofs.search.shortest_round.Goals as goal

pub loop-steps-init : goal.loop-steps-init
loop-steps-init c = ((λ b l. c.no_steps-layer.ensures b l ∙ tally_none _ _ b), λ j l m. absurd (omega arith))

pub deepen-requires : goal.deepen-requires
deepen-requires c = λ b a l.
    subst (λ (f : ℕ → ℕ). f a < 255) (sym (c.loop-steps.invariant.0 b l)) (tally_byte (rel c.of-by.result.period) (rel c.of-by.result.section) (c.loop-steps.steps - 1) b a (omega (arith, c.events-steps-end.ensures, (sound c.args.x.now).few)))

pub lowest_closed-requires : goal.lowest_closed-requires
lowest_closed-requires c = omega (arith, c.events-steps-end.ensures, (sound c.args.x.now).few)

pub trace-requires : goal.trace-requires
trace-requires c =
    let low = c.in-Some.ensures in
    let here = layer_more (rel c.of-by.result.period) (rel c.of-by.result.section) c.loop-steps.steps (sheet c.loop-steps.layer) (sheet c.deepen.new.m) (omega arith) c.loop-steps.invariant.0 c.deepen.ensures in
    record {
      room = low.0;
      some = omega arith;
      few = omega (arith, c.events-steps-end.ensures, (sound c.args.x.now).few);
      closes = omega (arith, low.1, ap (λ (f : ℕ → ℕ). f c.in-Some.start) (here c.in-Some.start low.0));
    }

pub returns-in-Some : goal.returns-in-Some
returns-in-Some c =
    let x = c.args.x.now in
    let low = c.in-Some.ensures in
    let here = layer_more (rel c.of-by.result.period) (rel c.of-by.result.section) c.loop-steps.steps (sheet c.loop-steps.layer) (sheet c.deepen.new.m) (omega arith) c.loop-steps.invariant.0 c.deepen.ensures in
    let es = listed c.trace.result in
    let ms = marks c.trace.result in
    record {
      none = (
        λ e. absurd (false≢true e),
        λ rcu. absurd (round_breaks (scene x) (sound x) es ms
            (traced_round (scene x) (sound x) _ _ c.of-by.ensures.periods c.of-by.ensures.sections c.loop-steps.steps c.in-Some.start (sheet c.deepen.new.m) here es ms c.trace.ensures.round) rcu),
      );
      found =
          traced_shortest (scene x) (sound x) _ _ c.of-by.ensures.periods c.of-by.ensures.sections c.loop-steps.steps c.in-Some.start (sheet c.deepen.new.m) here es ms c.trace.ensures.round
          c.trace.ensures.long c.trace.ensures.first low.0 (omega arith) c.loop-steps.invariant.1 low.2;
    }

pub loop-steps-preserved : goal.loop-steps-preserved
loop-steps-preserved c =
    let x = c.args.x.now in
    let here = layer_more (rel c.of-by.result.period) (rel c.of-by.result.section) c.loop-steps.steps (sheet c.loop-steps.layer) (sheet c.deepen.new.m) (omega arith) c.loop-steps.invariant.0 c.deepen.ensures in
    (layer_next _ _ _ _ here, open_more (scene x) (sound x) _ _ c.of-by.ensures.periods c.of-by.ensures.sections c.loop-steps.steps (sheet c.deepen.new.m) here c.in_default.ensures c.loop-steps.invariant.1)

pub returns-else-is_some-clause-none : goal.returns-else-is_some-clause-none
returns-else-is_some-clause-none c =
    let x = c.args.x.now in
    (λ _. open_kept (scene x) (sound x) (λ j l h. c.loop-steps.invariant.1 j l (omega arith)), λ _. refl)

pub returns-in_default-clause-none : goal.returns-in_default-clause-none
returns-in_default-clause-none c =
    let x = c.args.x.now in
    let here = layer_more (rel c.of-by.result.period) (rel c.of-by.result.section) c.loop-steps.steps (sheet c.loop-steps.layer) (sheet c.deepen.new.m) (omega arith) c.loop-steps.invariant.0 c.deepen.ensures in
    let none = open_more (scene x) (sound x) _ _ c.of-by.ensures.periods c.of-by.ensures.sections c.loop-steps.steps (sheet c.deepen.new.m) here c.in_default.ensures c.loop-steps.invariant.1 in
    (λ _. open_kept (scene x) (sound x) (λ j l h. none j l (omega arith)), λ _. refl)
