use Rattle.std.proofs.Common.{◌≡◌, ◌≤◌, None}
use Rattle.sources.specs.Snapshot.{execution}
use Rattle.wellformed.specs.Events.{depth}
use Rattle.wellformed.specs.Faults.{first, unlock_fault, last_lock}
use Rattle.wellformed.proofs.locks.test_thread.Given as goal

abbrev pub invariant-loop-i : goal.invariant-loop-i
invariant-loop-i l =
    (l.depth ≡ depth (execution l.case) l.thread l.i) × (l.outermost ≡ last_lock (execution l.case) l.thread l.i)
    × (first l.i (unlock_fault (execution l.case) l.thread) ≡ None) × (l.outermost ≤ l.i)
