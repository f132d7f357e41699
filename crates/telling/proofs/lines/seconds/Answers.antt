use Rattle.std.proofs.Common.{rules}
use Rattle.rulings.specs.Rulings.{blank}
use Rattle.telling.proofs.Columns.{column}
use Rattle.telling.proofs.lines.seconds.Goals as goal

pub returns : goal.returns
returns c = column (λ r. r.second) _ _ (search rules) c.map.ensures.items.long (λ i lt. let turn = c.map.ensures.items.at i blank 0 lt in search (rules, turn))
