use Rattle.grace.proofs.RowByRow.{row_law}
use Rattle.grace.proofs.row_law_stands.Goals as goal

pub returns : goal.returns
returns c = row_law
