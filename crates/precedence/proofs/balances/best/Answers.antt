use Rattle.std.proofs.Common.{rules}
use Rattle.precedence.proofs.Cells.{cell_at}
use Rattle.precedence.proofs.Largest.{most_gathers, most_all}
use Rattle.precedence.proofs.balances.best.Goals as goal

pub loop-c-preserved : goal.loop-c-preserved
loop-c-preserved c = search (rules, most_gathers, cell_at)

pub returns : goal.returns
returns c = search (rules, most_all)
