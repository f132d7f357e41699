use Rattle.std.proofs.Common.{◌≡◌}
use Rattle.relations.specs.View.{rel, size}
use Rattle.executions.specs.Execution.{count}
use Rattle.sources.specs.Snapshot.{execution}
use Rattle.basis.proofs.Closing.{of_threads}
use Rattle.basis.proofs.sections.sections.Given as goal

abbrev pub invariant-loop-thread : goal.invariant-loop-thread
invariant-loop-thread l = record {
  found_so_far : rel l.found ≡ of_threads (execution l.case) l.thread;
  all_events : size l.found ≡ count (execution l.case);
}
