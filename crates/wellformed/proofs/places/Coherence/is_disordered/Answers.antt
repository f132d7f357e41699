use Rattle.std.proofs.Common.{rules, Bool, ◌&&◌, sym, refl, ap, ◌∙◌}
use borrow.Author.Tests.{tests}
use Rattle.rows.specs.Row.{Set, any}
use Rattle.rows.proofs.Any.{any_over, any_clear}
use Rattle.executions.specs.Execution.{count}
use Rattle.sources.specs.Snapshot.{execution}
use Rattle.wellformed.specs.Events.{writes}
use Rattle.wellformed.specs.Faults.{unordered}
use Rattle.wellformed.proofs.places.Coherence.is_disordered.Goals as goal

pub returns-then-is_write_at : goal.returns-then-is_write_at
returns-then-is_write_at c =
    let x = execution c.args.self.now.case.now in
    let s : Set = λ w. writes x c.args.place w && unordered x c.args.v w in
    any_over (count x) s _ _ c.any.result (cc) c.any.ensures.ran (λ i b q k. search (rules, tests))
    ∙ ap (λ (u : Bool). any (count x) (λ w. u && (writes x c.args.place w && unordered x c.args.v w))) c.if-is_write_at.ensures

pub returns-else-is_write_at : goal.returns-else-is_write_at
returns-else-is_write_at c =
    c.if-is_write_at.false ∙ sym (any_clear _ (count (execution c.args.self.now.case.now)) (λ i h. rw (← c.if-is_write_at.ensures) refl))
