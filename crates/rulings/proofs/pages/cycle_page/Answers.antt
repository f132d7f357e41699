use Rattle.std.proofs.Common.{◌≡◌, ℕ, length, take, replicate, sym, ap, ◌∙◌, rules}
use Rattle.std.proofs.lemmas.List.{length-take-le, take-replicate}
use Rattle.searches.specs.View.{listed}
use Rattle.rulings.proofs.pages.cycle_page.Goals as goal

pub returns : goal.returns
unfolding listed
returns c =
    let cycle = c.in-Some.cycle in
    let long : length (take cycle.steps cycle.events) ≡ cycle.steps = length-take-le cycle.steps cycle.events (search rules) in
    record {
      events = take cycle.steps cycle.events;
      marks = take cycle.steps (replicate 64 0);
      holds = record { shortest = c.in-Some.ensures.found; unmarked = take-replicate cycle.steps 64 0 cycle.few ∙ ap (λ (n : ℕ). replicate n 0) (sym long) };
      paged = record { events_are = c.padded.ensures; marks_are = c.padded-2.ensures; steps_are = sym long };
    }
