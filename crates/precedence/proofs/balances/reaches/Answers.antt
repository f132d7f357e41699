use Rattle.std.proofs.Common.{rules}
use Rattle.std.proofs.Common.{replicate, refl}
use Rattle.precedence.specs.Rows.{sheet}
use Rattle.precedence.proofs.Cells.{sheet_past, upto_none, upto_more, upto_all}
use Rattle.precedence.proofs.Largest.{most_zero}
use Rattle.precedence.proofs.balances.reaches.Goals as goal

pub loop-d-init : goal.loop-d-init
loop-d-init c = upto_none (replicate 64 0) _ refl

pub loop-d-preserved : goal.loop-d-preserved
unfolding sheet
loop-d-preserved c = search (rules, upto_more)

pub returns : goal.returns
returns c = search (rules, upto_all, most_zero, sheet_past)
