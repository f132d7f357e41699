use Rattle.std.proofs.Common.{◌≡◌}
use Rattle.relations.specs.Table.{table}
use Rattle.relations.specs.View.{rel, size}
use Rattle.settings.specs.View.{scene}
use Rattle.precedence.specs.Fences.{pairs_below}
use Rattle.precedence.proofs.enlarging.table_pairs.Given as goal

abbrev pub invariant-loop-l : goal.invariant-loop-l
invariant-loop-l v = (rel v.all ≡ pairs_below (scene v.x) (table v.table.rows) v.l) × (size v.all ≡ (scene v.x).count)
