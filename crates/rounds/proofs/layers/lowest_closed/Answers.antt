use Rattle.std.proofs.Common.{◌+◌, ◌*◌, ◌<◌, ◌≤◌, [], get_or, rules, arith}
use borrow.Author.Tests.{tests}
use Rattle.std.proofs.lemmas.Iterator.{first_from_Range}
use Rattle.precedence.specs.Rows.{sheet}
use Rattle.precedence.proofs.Cells.{cell_at}
use Rattle.rounds.proofs.Searching.{lowest_is}
use Rattle.rounds.proofs.layers.lowest_closed.Goals as goal

pub returns : goal.returns
unfolding sheet
returns c =
    let m = c.args.m.now in
    let k = c.args.k in
    lowest_is c.find.result _ _ _ _ (λ a l h. omega (arith, h, cell_at (get_or m a []) a l)) (λ a l h. omega (arith, h, cell_at (get_or m a []) a l))
    (first_from_Range _ _ _ c.find.result (λ a. k + 2 ≤ 2 * get_or (get_or m a []) a 0) (λ a. 2 * get_or (get_or m a []) a 0 < k + 2) c.find.ensures.ran
    (λ x q h. search (rules, tests)) (λ x q h. search (rules, tests)))
