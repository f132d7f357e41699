use Rattle.std.proofs.Common.{◌≡◌, ℕ, List, map, length, take, sym, refl, ap, ◌∙◌, subst, rules, tests}
use Rattle.std.proofs.lemmas.List.{length-take-le, take-map}
use Rattle.rounds.specs.Marks.{number}
use Rattle.rounds.specs.View.{listed, marks}
use Rattle.rounds.specs.declared.kinds.Mark.TheVariants.{Period}
use Rattle.rulings.specs.Pages.{Column}
use Rattle.rulings.proofs.Columns.{mapped}
use Rattle.rulings.proofs.rounds_of.marked_page.Goals as goal

pub returns : goal.returns
unfolding listed marks
returns c =
    let round = c.in-Some.round in
    let long : length (take round.steps round.events) ≡ round.steps = length-take-le round.steps round.events (search rules) in
    let all : c.map-marks.result ≡ map number round.marks = mapped _ _ number (λ p x y q k. search (rules, tests)) Period round.marks c.map-marks.result 64 (search rules) c.map-marks.ensures.items in
    record {
      events = take round.steps round.events;
      marks = map number (take round.steps round.marks);
      holds = record { steps = take round.steps round.marks; shortest = c.in-Some.ensures.found; marked = refl };
      paged = record { events_are = c.padded.ensures; marks_are = subst (λ (ns : List ℕ). Column ns c.padded-2.result) (ap (take round.steps) all ∙ take-map number round.steps round.marks) c.padded-2.ensures; steps_are = sym long };
    }
