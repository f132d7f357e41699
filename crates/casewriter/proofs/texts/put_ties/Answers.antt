use Rattle.std.proofs.Common.{[], ◌∷◌, ◌++◌, sym, ◌∙◌, ap, length, arith, rules}
use Rattle.std.proofs.lemmas.List.{append_assoc, length-append}
use Rattle.sources.specs.Snapshot.{execution}
use Rattle.casewriter.specs.Listing.{lines_left}
use Rattle.casewriter.proofs.Laying.{put_none, then_put, spelled_so}
use Rattle.casewriter.proofs.Gathering.{line_more, ties_few}
use Rattle.casewriter.proofs.texts.put_ties.Goals as goal

pub loop-line-init : goal.loop-line-init
loop-line-init c = search (rules, put_none)

pub put_line-requires : goal.put_line-requires
put_line-requires c =
    omega (arith, c.loop-line.invariant.2, ap length c.loop-line.invariant.3, length-append c.loop-line.yielded (lines_left c.loop-line.line-iterator), ties_few (execution c.args.case.now))

pub loop-line-preserved : goal.loop-line-preserved
loop-line-preserved c =
    let so_far = c.loop-line.yielded in
    let line = c.in-Some.line in (
      c.put_line.ensures.same ∙ c.loop-line.invariant.0,
      spelled_so (line_more so_far line) (then_put c.loop-line.invariant.1 c.put_line.ensures.put),
      omega (arith, c.loop-line.invariant.2, c.put_line.ensures.within, length-append so_far (line ∷ [])),
      append_assoc so_far (line ∷ []) (lines_left c.next.new.self) ∙ ap (λ l. so_far ++ l) (sym c.in-Some.ensures.steps) ∙ c.loop-line.invariant.3,
    )
