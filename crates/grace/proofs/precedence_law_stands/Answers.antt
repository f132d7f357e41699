use Rattle.grace.proofs.Precedence.{precedence_law}
use Rattle.grace.proofs.precedence_law_stands.Goals as goal

pub returns : goal.returns
returns c = precedence_law
