use Rattle.std.proofs.Common.{rules}
use Rattle.precedence.proofs.Cells.{cell_test}
use Rattle.precedence.proofs.Gathering.{gathered}
use Rattle.precedence.proofs.balances.closing.Goals as goal

pub returns : goal.returns
returns c = search (rules, gathered, cell_test)
