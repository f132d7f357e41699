use Rattle.std.proofs.Common.{ℕ, sym, ap, ◌∙◌, arith}
use Rattle.std.proofs.lemmas.Bool.{eqb-true}
use Rattle.rows.specs.Row.{Set, bit}
use Rattle.rows.proofs.Bits.{bit_zero}
use Rattle.sources.specs.Snapshot.{execution}
use Rattle.casewriter.proofs.Gathering.{bare_row}
use Rattle.casewriter.proofs.ties.is_bare.Goals as goal

pub returns-then-number-eq0 : goal.returns-then-number-eq0
returns-then-number-eq0 c zero =
    bare_row (execution c.args.case.now) c.args.number c.in-Some.relation (omega (arith, c.if-number-eq0.true)) c.in-Some.ensures
    (λ b. sym (ap (λ (s : Set). s b) c.row.ensures) ∙ ap (λ (w : ℕ). bit w b) (eqb-true c.row.result 0 zero) ∙ bit_zero b)
