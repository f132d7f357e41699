use Rattle.std.proofs.Common.{◌≡◌, None}
use Rattle.sources.specs.Snapshot.{execution}
use Rattle.wellformed.specs.Faults.{first, row_fault}
use Rattle.wellformed.specs.Walk.{Before}
use Rattle.wellformed.proofs.ties.test_relation.Given as goal

-- no fault so far, and the ends of the ties so far
abbrev pub invariant-loop-a : goal.invariant-loop-a
invariant-loop-a l =
    (first l.a (row_fault (execution l.case) l.relation) ≡ None) × Before (execution l.case) l.relation l.a l.ends.targets l.ends.sources
