use Rattle.executions.specs.Execution.{event_at}
use Rattle.sources.specs.Snapshot.{execution}
use Rattle.basis.specs.Groups.{Grouped}
use Rattle.basis.proofs.groups.Grouped.of.Given as goal

abbrev pub invariant-loop-i : goal.invariant-loop-i
invariant-loop-i l =
    Grouped (λ b. (event_at (execution l.case) b).thread) l.i l.threads
    × Grouped (λ b. (event_at (execution l.case) b).sort) l.i l.sorts
    × Grouped (λ b. (event_at (execution l.case) b).place) l.i l.places
