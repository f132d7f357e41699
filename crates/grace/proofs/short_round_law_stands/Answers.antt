use Rattle.grace.proofs.Walks.{short_round_law}
use Rattle.grace.proofs.short_round_law_stands.Goals as goal

pub returns : goal.returns
returns c = short_round_law
