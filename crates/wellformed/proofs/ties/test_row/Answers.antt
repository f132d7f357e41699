use Rattle.std.proofs.Common.{◌≡◌, ℕ, Some, None, sym, ap, ◌∙◌, subst, ⊎_elim}
use Rattle.std.proofs.lemmas.Result.{err_from_is_err_and}
use Rattle.rows.specs.Row.{Set, bit}
use Rattle.sources.specs.Snapshot.{execution}
use Rattle.wellformed.specs.Faults.{tie_fault, one_too_many}
use Rattle.wellformed.proofs.First.{first_at, first_clear}
use Rattle.wellformed.proofs.Walking.{untied, over_is, tie_is, still_tied, left_out}
use Rattle.wellformed.proofs.ties.test_row.Goals as goal

pub loop-b-init : goal.loop-b-init
loop-b-init c =
    let row : bit c.into_iter-b-iterator.result.rest ≡ (execution c.args.case.now).ties c.args.relation c.args.a = ap bit (cc) ∙ c.row-row.ensures in (
      λ e h. sym (ap (λ (s : Set). s e) row) ∙ h,
      λ e h. untied (execution c.args.case.now) c.args.relation c.args.a e (sym (ap (λ (s : Set). s e) row) ∙ h),
    )

pub loop-b-preserved : goal.loop-b-preserved
loop-b-preserved c =
    let over : c.is_over-over.result ≡ one_too_many (execution c.args.case.now) c.args.relation c.args.a c.in-Some.b =
    c.is_over-over.ensures ∙ over_is (execution c.args.case.now) c.args.relation c.args.a c.in-Some.b c.row-row.result c.args.ends.targets c.args.ends.sources c.row-row.ensures c.requires.before in
    let here : tie_fault (execution c.args.case.now) c.args.relation c.args.a c.in-Some.b ≡ None =
    tie_is (execution c.args.case.now) c.args.relation c.args.a c.in-Some.b c.is_over-over.result None (c.loop-b.invariant.0 c.in-Some.b c.in-Some.ensures.steps.lowest.member) over
    c.in_ok-test_pair.ensures in (
      λ e h. c.loop-b.invariant.0 e (still_tied (bit c.loop-b.b-iterator.rest) (bit c.next.new.self.rest) c.in-Some.b c.in-Some.ensures.steps.left e h),
      λ e h.
          ⊎_elim (c.loop-b.invariant.1 e) (λ q. subst (λ (k : ℕ). tie_fault (execution c.args.case.now) c.args.relation c.args.a k ≡ None) (sym q) here)
          (left_out (bit c.loop-b.b-iterator.rest) (bit c.next.new.self.rest) c.in-Some.b c.in-Some.ensures.steps.left e h),
    )

pub returns-in_err-test_pair : goal.returns-in_err-test_pair
returns-in_err-test_pair c =
    let over : c.is_over-over.result ≡ one_too_many (execution c.args.case.now) c.args.relation c.args.a c.in-Some.b =
    c.is_over-over.ensures ∙ over_is (execution c.args.case.now) c.args.relation c.args.a c.in-Some.b c.row-row.result c.args.ends.targets c.args.ends.sources c.row-row.ensures c.requires.before in
    let p = err_from_is_err_and c.from_residual.result c.from_residual.ensures.1 in
    rw (p.1, p.2)
    (first_at (tie_fault (execution c.args.case.now) c.args.relation c.args.a) c.in-Some.b 64 _ c.in-Some.ensures.steps.lowest.room
    (λ k h. c.loop-b.invariant.1 k (c.in-Some.ensures.steps.lowest.first k h))
    (tie_is (execution c.args.case.now) c.args.relation c.args.a c.in-Some.b c.is_over-over.result (Some c.in_err-test_pair.field-0.0)
    (c.loop-b.invariant.0 c.in-Some.b c.in-Some.ensures.steps.lowest.member) over c.in_err-test_pair.ensures))

pub returns : goal.returns
returns c = sym (first_clear (tie_fault (execution c.args.case.now) c.args.relation c.args.a) 64 (λ i h. c.loop-b.invariant.1 i (c.in-None.ensures.steps i)))
