use Rattle.std.proofs.Common.{length, Err, sym, ap, ◌∙◌}
use Rattle.std.proofs.lemmas.Bool.{eqb-true, eqb-false}
use Rattle.std.proofs.lemmas.Result.{err_from_is_err_and}
use Rattle.tables.specs.Tables.{tables}
use Rattle.casetext.specs.declared.kinds.TextFault.{TextFault}
use Rattle.casetext.specs.Reading.{line_step}
use Rattle.casetext.proofs.Looping.{exact_more, shorter, lines_more, lines_bounded, lines_fail, lines_end, lines_open, lines_rest}
use Rattle.casetext.proofs.reading.take_lines.Goals as goal
use Rattle.casetext.proofs.reading.take_lines.Goals.{else-is_done-via-then-is_done+else-is_empty, else-is_done-via-else-is_done}

pub returns-in_err-reader : goal.returns-in_err-reader
returns-in_err-reader c =
    let p = err_from_is_err_and c.from_residual.result c.from_residual.ensures.1 in
    let t = tables c.loop-bytes.case c.loop-bytes.events c.loop-bytes.ties in
    let t' = tables c.take_line.new.case c.take_line.new.events c.take_line.new.ties in
    rw p.1 (record {
      scanned =
          lines_fail (length c.args.events.now) (length c.args.ties.now) (length c.loop-bytes.events) (length c.loop-bytes.ties)
          c.loop-bytes.auto.events c.loop-bytes.auto.ties _ c.loop-bytes.reader t c.loop-bytes.rest.now c.loop-bytes.invariant.0
          c.in-Some.bytes.now c.in-Some.after.now t' c.in_err-reader.field-0.0 c.in-Some.ensures c.in_err-reader.ensures.does
          ∙ ap (λ (f : TextFault). Err f) (sym p.2);
      exact = λ x. exact_more (line_step (length c.loop-bytes.events) (length c.loop-bytes.ties) c.loop-bytes.reader c.in-Some.bytes.now) t t' c.take_line.result
          c.take_line.ensures.does (c.loop-bytes.invariant.1 x);
      tail = (c.take_line.ensures.tail.0 ∙ c.loop-bytes.invariant.2.0, c.take_line.ensures.tail.1 ∙ c.loop-bytes.invariant.2.1);
    })

pub loop-bytes-smaller : goal.loop-bytes-smaller
loop-bytes-smaller c = shorter c.loop-bytes.rest.now c.in-Some.bytes.now c.in-Some.after.now c.in-Some.ensures

pub loop-bytes-preserved : goal.loop-bytes-preserved
loop-bytes-preserved c =
    let t = tables c.loop-bytes.case c.loop-bytes.events c.loop-bytes.ties in
    let t' = tables c.take_line.new.case c.take_line.new.events c.take_line.new.ties in (
      lines_more (length c.args.events.now) (length c.args.ties.now) (length c.loop-bytes.events) (length c.loop-bytes.ties)
          c.loop-bytes.auto.events c.loop-bytes.auto.ties _ c.loop-bytes.reader t c.loop-bytes.rest.now c.loop-bytes.invariant.0
          c.in-Some.bytes.now c.in-Some.after.now t' c.in_ok-reader.reader c.in-Some.ensures c.in_ok-reader.ensures.does,
      (λ x. exact_more (line_step (length c.loop-bytes.events) (length c.loop-bytes.ties) c.loop-bytes.reader c.in-Some.bytes.now) t t' c.take_line.result
          c.take_line.ensures.does (c.loop-bytes.invariant.1 x)),
      (c.take_line.ensures.tail.0 ∙ c.loop-bytes.invariant.2.0, c.take_line.ensures.tail.1 ∙ c.loop-bytes.invariant.2.1),
      lines_bounded (length c.args.events.now) (length c.args.ties.now) (length c.loop-bytes.events) (length c.loop-bytes.ties)
          c.loop-bytes.auto.events c.loop-bytes.auto.ties _ c.loop-bytes.reader t c.loop-bytes.rest.now c.loop-bytes.invariant.0
          c.in-Some.bytes.now t' c.in_ok-reader.reader c.in_ok-reader.ensures.does c.loop-bytes.invariant.3,
    )

pub returns-then-is_empty : goal.returns-then-is_empty
returns-then-is_empty c = record {
  scanned =
      lines_end (length c.args.events.now) (length c.args.ties.now) (length c.loop-bytes.events) (length c.loop-bytes.ties)
      c.loop-bytes.auto.events c.loop-bytes.auto.ties _ c.loop-bytes.reader (tables c.loop-bytes.case c.loop-bytes.events c.loop-bytes.ties)
      c.loop-bytes.rest.now c.loop-bytes.invariant.0 c.in_default.ensures (sym c.if-is_done.ensures) (eqb-true (length c.loop-bytes.rest.now) 0 (sym c.if-is_empty.ensures));
  exact = c.loop-bytes.invariant.1;
  tail = c.loop-bytes.invariant.2;
}

pub returns-else-is_done : goal.returns-else-is_done
returns-else-is_done c =
    let t = tables c.loop-bytes.case c.loop-bytes.events c.loop-bytes.ties in
    rw c.text_fault.ensures (record {
      scanned = elim c.else-is_done.branch [
        | else-is_done-via-then-is_done+else-is_empty w ↦
            lines_rest (length c.args.events.now) (length c.args.ties.now) (length c.loop-bytes.events) (length c.loop-bytes.ties)
            c.loop-bytes.auto.events c.loop-bytes.auto.ties _ c.loop-bytes.reader t c.loop-bytes.rest.now c.loop-bytes.invariant.0
            c.in_default.ensures (eqb-false (length c.loop-bytes.rest.now) 0 (sym w.if-is_empty.ensures))
        | else-is_done-via-else-is_done w ↦
            lines_open (length c.args.events.now) (length c.args.ties.now) (length c.loop-bytes.events) (length c.loop-bytes.ties)
            c.loop-bytes.auto.events c.loop-bytes.auto.ties _ c.loop-bytes.reader t c.loop-bytes.rest.now c.loop-bytes.invariant.0
            c.in_default.ensures (sym w.if-is_done.ensures)
      ];
      exact = c.loop-bytes.invariant.1;
      tail = c.loop-bytes.invariant.2;
    })
