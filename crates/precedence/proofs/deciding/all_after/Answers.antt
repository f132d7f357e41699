use Rattle.std.proofs.Common.{rules}
use Rattle.precedence.proofs.Gathering.{gathered}
use Rattle.precedence.proofs.deciding.all_after.Goals as goal

pub returns : goal.returns
returns c = search (rules, gathered)
