use Rattle.std.proofs.Common.{rules}
use borrow.Author.Tests.{tests}
use Rattle.rows.proofs.Any.{any_over}
use Rattle.executions.specs.Execution.{count}
use Rattle.sources.specs.Snapshot.{execution}
use Rattle.wellformed.specs.Events.{accesses}
use Rattle.wellformed.proofs.places.is_used.Goals as goal

pub returns : goal.returns
returns c =
    let x = execution c.args.case.now in
    any_over (count x) (accesses x c.args.place) _ _ c.any.result (cc) c.any.ensures.ran (λ i b q k. search (rules, tests))
