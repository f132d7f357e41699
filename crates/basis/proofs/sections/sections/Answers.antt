use Rattle.std.proofs.Common.{arith, rules}
use Rattle.sources.specs.Snapshot.{execution}
use Rattle.sources.proofs.Copying.{held_few}
use Rattle.basis.proofs.Closing.{crit_in_words, threads_none, threads_more, threads_all}
use Rattle.basis.proofs.sections.sections.Goals as goal

pub loop-thread-init : goal.loop-thread-init
loop-thread-init c = search (rules, threads_none, held_few)

pub loop-thread-preserved : goal.loop-thread-preserved
loop-thread-preserved c = search (rules, threads_more)

pub returns : goal.returns
returns c =
    let all = threads_all (execution c.args.case.now) c.loop-thread.thread _ (omega arith) c.loop-thread.invariant.found_so_far in
    record { pairs = all; events = c.loop-thread.invariant.all_events; in_words = crit_in_words (execution c.args.case.now) _ all }
