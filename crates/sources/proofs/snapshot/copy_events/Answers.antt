use Rattle.std.proofs.Common.{drop, unwrap_or, ap, ◌∙◌, arith}
use Rattle.std.proofs.lemmas.List.{take-append-le, length-take-le}
use Rattle.executions.specs.Execution.{unused}
use Rattle.sources.proofs.Copying.{copied_more, copied_all}
use Rattle.sources.proofs.snapshot.copy_events.Goals as goal

pub loop-i-preserved : goal.loop-i-preserved
loop-i-preserved g c =
    let n = length-take-le c.args.count c.args.events.now c.requires.room in
    copied_more c.loop-i.event-items (g.S.CaseSource.meaning c.args.source.now).events c.loop-i.i c.unwrap_or.result
    (omega arith) (omega arith) c.loop-i.invariant (c.unwrap_or.ensures ∙ ap (λ o. unwrap_or o unused) c.event.ensures)

pub returns : goal.returns
returns g c =
    let n = length-take-le c.args.count c.args.events.now c.requires.room in
    take-append-le c.args.count c.loop-i.event-items (drop c.args.count c.args.events.now) (omega arith)
    ∙ copied_all c.loop-i.event-items (g.S.CaseSource.meaning c.args.source.now).events c.loop-i.i c.args.count
    (omega arith) c.requires.all c.loop-i.invariant
