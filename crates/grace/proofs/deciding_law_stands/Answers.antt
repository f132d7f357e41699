use Rattle.grace.proofs.Deciding.{deciding_law}
use Rattle.grace.proofs.deciding_law_stands.Goals as goal

pub returns : goal.returns
returns c = deciding_law
