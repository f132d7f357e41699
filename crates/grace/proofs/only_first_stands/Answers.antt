use Rattle.grace.proofs.Only.{only_first}
use Rattle.grace.proofs.only_first_stands.Goals as goal

pub returns : goal.returns
returns c = only_first
