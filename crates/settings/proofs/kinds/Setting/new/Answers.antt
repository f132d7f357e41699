use Rattle.std.proofs.Common.{rules}
use Rattle.settings.proofs.Settings.{gp_is, contains_at}
use Rattle.settings.proofs.kinds.Setting.new.Goals as goal

pub returns-else-alike : goal.returns-else-alike
returns-else-alike c = search (rules, gp_is, contains_at)

pub invariant_of-result : goal.invariant_of-result
invariant_of-result c = search (rules, gp_is, contains_at)
