-- What a value of the code stands for: its relation, and on how many events it is.
use Rattle.std.specs.Prelude.{ℕ}
use Rattle.relations.specs.Algebra.{Rel}
use Rattle.relations.specs.Table.{table}
use Rattle.relations.specs.declared.kinds.Relation.{Relation}

-- the pairs
unfoldable pub rel : Relation → Rel
rel x = table x.rows

-- the number of events
abbrev pub size : Relation → ℕ
size x = x.events
