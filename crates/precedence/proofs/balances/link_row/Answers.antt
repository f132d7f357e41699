use Rattle.std.proofs.Common.{rules}
use Rattle.std.proofs.Common.{replicate, refl}
use Rattle.rows.proofs.Bits.{bit_outside}
use Rattle.precedence.proofs.Cells.{upto_none, upto_all}
use Rattle.precedence.proofs.balances.link_row.Goals as goal

pub loop-b-init : goal.loop-b-init
loop-b-init c = upto_none (replicate 64 0) _ refl

pub returns : goal.returns
returns c = search (rules, upto_all, bit_outside)
