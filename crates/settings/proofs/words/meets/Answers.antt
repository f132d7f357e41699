use Rattle.std.proofs.Common.{rules}
use Rattle.settings.proofs.Meeting.{meets_any}
use Rattle.settings.proofs.words.meets.Goals as goal

pub returns : goal.returns
returns c = search (rules, meets_any)
