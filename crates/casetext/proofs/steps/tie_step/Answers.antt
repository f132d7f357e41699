use Rattle.std.proofs.Common.{ℕ, ◌+◌, ◌-◌, ◌<◌, ◌≤◌, length, Ok, Err, sym, refl, ap, ◌∙◌, subst}
use Rattle.std.proofs.lemmas.Result.{err_from_is_err_and}
use Rattle.tables.specs.Tables.{tables}
use Rattle.casetext.specs.declared.kinds.Reader.{Reader}
use Rattle.casetext.specs.declared.kinds.Section.TheVariants.{InTies}
use Rattle.casetext.specs.declared.kinds.TextFault.{TextFault}
use Rattle.casetext.specs.Reading.{moved, rank}
use Rattle.casetext.proofs.Doing.{passed_up, tie_does, tie_misordered}
use Rattle.casetext.proofs.steps.tie_step.Goals as goal

abbrev next : Reader → ℕ → Reader
next s k = moved s InTies (s.left - 1) (k + 1)

pub returns-then-rank-reader : goal.returns-then-rank-reader
returns-then-rank-reader c =
    rw c.text_fault-then-rank-reader.ensures (record {
      does = tie_misordered (length c.args.events.now) (length c.args.ties.now) c.args.reader c.args.tie.0 c.args.tie.1 c.args.tie.2
          (tables c.args.case.now c.args.events.now c.args.ties.now) c.if-reader-eq0.false
          (subst (λ (k : ℕ). k < c.args.reader.least) c.rank-rank.ensures.value c.if-rank-reader.true);
      tail = refl;
    })

pub returns-in_err-tie_at : goal.returns-in_err-tie_at
returns-in_err-tie_at c =
    let p = err_from_is_err_and c.from_residual.result c.from_residual.ensures.1 in
    record {
      does =
          tie_does (length c.args.events.now) (length c.args.ties.now) c.args.reader c.args.tie.0 c.args.tie.1 c.args.tie.2
          (tables c.args.case.now c.args.events.now c.args.ties.now) (tables c.args.case.now c.args.events.now c.tie_at.new.ties)
          c.tie_at.result c.if-reader-eq0.false (subst (λ (k : ℕ). c.args.reader.least ≤ k) c.rank-rank.ensures.value c.if-rank-reader.false)
          c.tie_at.ensures.does c.from_residual.result
          (p.1 ∙ ap (λ (f : TextFault). Err f) p.2
          ∙ sym (ap (passed_up (next c.args.reader (rank c.args.tie.0 c.args.tie.1 c.args.tie.2))) c.in_err-tie_at.was));
      tail = c.tie_at.ensures.tail;
    }

pub returns : goal.returns
returns c = record {
  does =
      tie_does (length c.args.events.now) (length c.args.ties.now) c.args.reader c.args.tie.0 c.args.tie.1 c.args.tie.2
      (tables c.args.case.now c.args.events.now c.args.ties.now) (tables c.args.case.now c.args.events.now c.tie_at.new.ties)
      c.tie_at.result c.if-reader-eq0.false (subst (λ (k : ℕ). c.args.reader.least ≤ k) c.rank-rank.ensures.value c.if-rank-reader.false)
      c.tie_at.ensures.does (Ok c.moved.result)
      (ap (λ (n : Reader). Ok n) (c.moved.ensures ∙ ap (next c.args.reader) c.rank-rank.ensures.value)
      ∙ sym (ap (passed_up (next c.args.reader (rank c.args.tie.0 c.args.tie.1 c.args.tie.2))) c.in_ok-tie_at.was));
  tail = c.tie_at.ensures.tail;
}
