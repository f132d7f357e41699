use Rattle.std.proofs.Common.{ℕ, take, subst, rules}
use Rattle.rulings.specs.Pages.{Column}
use Rattle.rulings.proofs.Drawing.{order_in}
use Rattle.rulings.proofs.sheets.places.Goals as goal

pub returns : goal.returns
returns c =
    order_in c.args.relation.now c.in-Some.found (search rules) c.in-Some.ensures.found c.padded.result
    (subst (λ (n : ℕ). Column (take n c.in-Some.found.places) c.padded.result) c.events.ensures c.padded.ensures)
