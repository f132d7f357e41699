use Rattle.grace.proofs.Steps.{first_table_law}
use Rattle.grace.proofs.first_table_law_stands.Goals as goal

pub returns : goal.returns
returns c = first_table_law
