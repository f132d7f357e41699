use Rattle.std.proofs.Common.{◌≡◌, Some, None, sym, ap, ◌∙◌, subst}
use Rattle.std.proofs.lemmas.Result.{err_from_is_err_and}
use Rattle.sources.specs.Source.{bounded}
use Rattle.wellformed.specs.Faults.{first_fault}
use Rattle.wellformed.specs.WellFormed.{Inside}
use Rattle.wellformed.proofs.Deciding.{inside_bounded, formed, faulty, too_many, copied, not_copied}
use Rattle.wellformed.proofs.check.Goals as goal

pub test_case-requires : goal.test_case-requires
test_case-requires g c =
    subst Inside (sym (copied (bounded (g.S.CaseSource.meaning c.args.source.now)) _ _ _ c.of.ensures (sym c.ok_or.ensures.value ∙ c.in_ok-case.was)))
    (inside_bounded (g.S.CaseSource.meaning c.args.source.now))

pub returns-in_err-case : goal.returns-in_err-case
returns-in_err-case g c =
    let p = err_from_is_err_and c.from_residual.result c.from_residual.ensures.1 in
    let none = not_copied (bounded (g.S.CaseSource.meaning c.args.source.now)) _ _ _ c.of.ensures (sym c.ok_or.ensures.value ∙ c.in_err-case.was) in
    let e = too_many (bounded (g.S.CaseSource.meaning c.args.source.now)) c.in_err-case.field-0.0 none.0 (none.1 ∙ c.fault.ensures) in
    rw (p.1, p.2)
    (e, faulty (bounded (g.S.CaseSource.meaning c.args.source.now)) (inside_bounded (g.S.CaseSource.meaning c.args.source.now)) c.in_err-case.field-0.0 e)

pub returns-in_err-test_case : goal.returns-in_err-test_case
returns-in_err-test_case g c =
    let p = err_from_is_err_and c.from_residual-in_err-test_case.result c.from_residual-in_err-test_case.ensures.1 in
    let same = copied (bounded (g.S.CaseSource.meaning c.args.source.now)) _ _ _ c.of.ensures (sym c.ok_or.ensures.value ∙ c.in_ok-case.was) in
    let e : first_fault (bounded (g.S.CaseSource.meaning c.args.source.now)) ≡ Some c.in_err-test_case.field-0.0 = sym (ap first_fault same) ∙ sym c.in_err-test_case.ensures in
    rw (p.1, p.2)
    (e, faulty (bounded (g.S.CaseSource.meaning c.args.source.now)) (inside_bounded (g.S.CaseSource.meaning c.args.source.now)) c.in_err-test_case.field-0.0 e)

pub returns : goal.returns
returns g c =
    let same = copied (bounded (g.S.CaseSource.meaning c.args.source.now)) _ _ _ c.of.ensures (sym c.ok_or.ensures.value ∙ c.in_ok-case.was) in
    let e : first_fault (bounded (g.S.CaseSource.meaning c.args.source.now)) ≡ None = sym (ap first_fault same) ∙ sym c.in_ok-test_case.ensures in
    (same, e, formed (bounded (g.S.CaseSource.meaning c.args.source.now)) (inside_bounded (g.S.CaseSource.meaning c.args.source.now)) e)
