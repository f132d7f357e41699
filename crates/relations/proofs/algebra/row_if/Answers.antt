use Rattle.std.proofs.Common.{rules}
use Rattle.rows.proofs.Bits.{bit_zero}
use Rattle.relations.proofs.algebra.row_if.Goals as goal

pub returns-else-keep : goal.returns-else-keep
returns-else-keep c b = search (rules, bit_zero)
