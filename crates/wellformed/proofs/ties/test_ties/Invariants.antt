use Rattle.std.proofs.Common.{◌≡◌, None, take}
use Rattle.executions.specs.Ties.{relations}
use Rattle.sources.specs.Snapshot.{execution}
use Rattle.wellformed.specs.Faults.{first_in, relation_fault}
use Rattle.wellformed.proofs.ties.test_ties.Given as goal

-- no fault in the relations so far
abbrev pub invariant-loop-relation : goal.invariant-loop-relation
invariant-loop-relation l = first_in (relation_fault (execution l.case)) (take l.relation-index relations) ≡ None
