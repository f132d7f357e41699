use Rattle.std.proofs.Common.{◌≡◌, true, false, rules, tests}
use Rattle.std.proofs.lemmas.Iterator.{first_from_Range}
use Rattle.relations.specs.View.{rel}
use Rattle.searches.proofs.Cycling.{lowest_from}
use Rattle.searches.proofs.cycles.lowest_loop.Goals as goal

pub returns : goal.returns
returns c =
    lowest_from c.args.x.now c.events.result c.find.result c.events.ensures
    (first_from_Range _ _ _ c.find.result (λ a. rel c.args.x.now a a ≡ true) (λ a. rel c.args.x.now a a ≡ false) c.find.ensures.ran
    (λ a q k. search (rules, tests)) (λ a q k. search (rules, tests)))
