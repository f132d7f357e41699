use Rattle.std.proofs.Common.{rules}
use Rattle.relations.proofs.Tables.{row_is}
use Rattle.settings.proofs.Settings.{sound}
use Rattle.precedence.proofs.Fencing.{pairs_none, pairs_more, pairs_same, pairs_all}
use Rattle.precedence.proofs.enlarging.table_pairs.Goals as goal
use Rattle.precedence.proofs.enlarging.table_pairs.Goals.{then-is_lock, else-is_lock}

pub loop-l-init : goal.loop-l-init
loop-l-init c = search (rules, pairs_none, sound)

pub loop-l-preserved : goal.loop-l-preserved
loop-l-preserved c = search (rules, pairs_more, row_is, pairs_same)

pub returns : goal.returns
returns c = search (rules, pairs_all)
