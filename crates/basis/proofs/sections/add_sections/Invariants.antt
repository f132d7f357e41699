use Rattle.std.proofs.Common.{◌≡◌}
use Rattle.relations.specs.Algebra.{union}
use Rattle.relations.specs.View.{rel, size}
use Rattle.sources.specs.Snapshot.{execution}
use Rattle.wellformed.specs.Events.{depth}
use Rattle.wellformed.specs.Faults.{last_lock}
use Rattle.basis.proofs.Closing.{closed_before}
use Rattle.basis.proofs.sections.add_sections.Given as goal

abbrev pub invariant-loop-i : goal.invariant-loop-i
invariant-loop-i l =
    (l.depth ≡ depth (execution l.case) l.thread l.i) × (l.outermost ≡ last_lock (execution l.case) l.thread l.i)
    × (rel l.found ≡ union (rel l.initial.found) (closed_before (execution l.case) l.thread l.i)) × (size l.found ≡ size l.initial.found)
