use Rattle.std.proofs.Common.{rules, Bool, ap, ◌∙◌}
use borrow.Author.Tests.{tests}
use Rattle.rows.specs.Row.{Set, any}
use Rattle.rows.proofs.Any.{any_over}
use Rattle.executions.specs.declared.faults.Cause.TheVariants.{CoherenceNotTotal}
use Rattle.executions.specs.Execution.{count}
use Rattle.sources.specs.Snapshot.{execution}
use Rattle.wellformed.specs.Faults.{fault_if, disordered}
use Rattle.wellformed.proofs.places.Coherence.test_place.Goals as goal

pub returns : goal.returns
returns c =
    let x = execution c.args.self.now.case.now in
    let s : Set = λ v. any (count x) (disordered x c.args.place v) in
    c.decline_if.ensures
    ∙ ap (λ (b : Bool). fault_if b CoherenceNotTotal c.args.place)
    (any_over (count x) s _ _ c.any-amiss.result (cc) c.any-amiss.ensures.ran (λ i b q k. search (rules, tests)))
