use Rattle.std.proofs.Common.{◌-◌, length, Ok, Err, sym, ap, ◌∙◌}
use Rattle.std.proofs.lemmas.Result.{err_from_is_err_and}
use Rattle.tables.specs.Tables.{tables}
use Rattle.casetext.specs.declared.kinds.Reader.{Reader}
use Rattle.casetext.specs.declared.kinds.Section.TheVariants.{InEvents}
use Rattle.casetext.specs.declared.kinds.TextFault.{TextFault}
use Rattle.casetext.specs.Reading.{moved}
use Rattle.casetext.proofs.Doing.{passed_up, event_does}
use Rattle.casetext.proofs.steps.event_step.Goals as goal

abbrev next : Reader → Reader
next s = moved s InEvents (s.left - 1) 0

pub returns-in_err-enter_at : goal.returns-in_err-enter_at
returns-in_err-enter_at c =
    let p = err_from_is_err_and c.from_residual.result c.from_residual.ensures.1 in
    record {
      does =
          event_does (length c.args.events.now) (length c.args.ties.now) c.args.reader c.args.event.0 c.args.event.1 c.args.event.2 c.record_of.result
          (tables c.args.case.now c.args.events.now c.args.ties.now) (tables c.enter_at.new.case c.enter_at.new.events c.args.ties.now)
          c.enter_at.result c.if-reader-eq0.false c.record_of.ensures c.enter_at.ensures.does c.from_residual.result
          (p.1 ∙ ap (λ (f : TextFault). Err f) p.2 ∙ sym (ap (passed_up (next c.args.reader)) c.in_err-enter_at.was));
      tail = c.enter_at.ensures.tail;
    }

pub returns : goal.returns
returns c = record {
  does =
      event_does (length c.args.events.now) (length c.args.ties.now) c.args.reader c.args.event.0 c.args.event.1 c.args.event.2 c.record_of.result
      (tables c.args.case.now c.args.events.now c.args.ties.now) (tables c.enter_at.new.case c.enter_at.new.events c.args.ties.now)
      c.enter_at.result c.if-reader-eq0.false c.record_of.ensures c.enter_at.ensures.does (Ok c.moved-next.result)
      (ap (λ (n : Reader). Ok n) c.moved-next.ensures ∙ sym (ap (passed_up (next c.args.reader)) c.in_ok-enter_at.was));
  tail = c.enter_at.ensures.tail;
}
