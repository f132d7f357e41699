use Rattle.sources.specs.Snapshot.{RowsCopied}
use Rattle.sources.proofs.snapshot.copy_rows.Given as goal

-- the rows of the relations so far are the source's
abbrev pub invariant-loop-relation : goal.invariant-loop-relation
invariant-loop-relation g l = RowsCopied (g.S.CaseSource.meaning l.source) l.relation-index l.count l.words
