use Rattle.std.proofs.Common.{rules, ℕ, ap, ◌∙◌, arith}
use borrow.Author.Tests.{tests}
use Rattle.std.specs.List.{range_with_len}
use Rattle.std.proofs.lemmas.Iterator.{YieldsList-from_range}
use Rattle.std.proofs.lemmas.Iterator.Consumers.{YieldsList-from_filter, count_from_yields_List}
use Rattle.std.proofs.lemmas.List.Sums.{length-filter}
use Rattle.rows.specs.Row.{count}
use Rattle.sources.specs.Snapshot.{execution}
use Rattle.wellformed.specs.Events.{initials}
use Rattle.wellformed.proofs.Rows.{count_range}
use Rattle.wellformed.proofs.places.initial_writes.Goals as goal

pub returns : goal.returns
returns c =
    let s = initials (execution c.args.case.now) c.args.place in
    let n = c.count.result in
    count_from_yields_List c.filter.result _ c.count-2.ensures.ran
    (YieldsList-from_filter _ s (YieldsList-from_range 0 n n c.filter.ensures.source (omega arith)) c.filter.ensures.closure (λ i b q k. search (rules, tests)))
    ∙ length-filter s (range_with_len 0 n) ∙ count_range n s ∙ ap (λ (k : ℕ). count k s) c.count.ensures
