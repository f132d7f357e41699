use Rattle.std.proofs.Common.{rules}
use Rattle.precedence.proofs.Joining.{joined_second, joined_both}
use Rattle.precedence.proofs.balances.join.Goals as goal
use Rattle.precedence.proofs.balances.join.Goals.{then-u-eq0-via-then-u-eq0, then-u-eq0-via-else-u-eq0+then-v-eq0}
use Rattle.grace.proofs.Sheets.{joined_none}

pub overflow_cast-result : goal.overflow_cast-result
overflow_cast-result c = search (rules, joined_both)

pub returns : goal.returns
returns c = search (rules, joined_both)

pub returns-then-u-eq0 : goal.returns-then-u-eq0
returns-then-u-eq0 c = search (rules, joined_none, joined_second)
