use Rattle.std.proofs.Common.{rules}
use Rattle.std.proofs.Common.{arith}
use Rattle.precedence.proofs.Cells.{cell_at, cell_far, upto_none, upto_more, upto_here, upto_all}
use Rattle.precedence.proofs.balances.raise.Goals as goal

pub loop-b-init : goal.loop-b-init
loop-b-init c = upto_none _ _ (omega arith)

pub loop-b-preserved : goal.loop-b-preserved
loop-b-preserved c = search (rules, upto_more, upto_here, cell_at)

pub returns : goal.returns
returns c = search (rules, upto_all, cell_far)
