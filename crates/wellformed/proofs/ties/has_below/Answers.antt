use Rattle.std.proofs.Common.{rules}
use borrow.Author.Tests.{tests}
use Rattle.rows.specs.Row.{bit}
use Rattle.wellformed.proofs.Rows.{below_found}
use Rattle.wellformed.proofs.ties.has_below.Goals as goal

pub returns : goal.returns
returns c =
    below_found (bit c.args.row) c.args.b c.lowest.result c.is_some_and.result c.lowest.ensures c.is_some_and.ensures (λ x p. search (rules, tests))
