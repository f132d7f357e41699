use Rattle.std.proofs.Common.{rules}
use Rattle.settings.proofs.Meeting.{inside_when}
use Rattle.settings.proofs.parts.inside.Goals as goal

pub returns : goal.returns
returns c = search (rules, inside_when)
