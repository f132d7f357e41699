use Rattle.std.proofs.Common.{length, refl}
use Rattle.tables.specs.Tables.{tables}
use Rattle.casetext.proofs.Doing.{line_does, line_unfit}
use Rattle.casetext.proofs.steps.take_line.Goals as goal

pub returns-in-Some : goal.returns-in-Some
returns-in-Some c = record {
  does = line_does (length c.args.events.now) (length c.args.ties.now) c.args.reader c.args.bytes.now c.in-Some.line
      (tables c.args.case.now c.args.events.now c.args.ties.now) (tables c.step.new.case c.step.new.events c.step.new.ties)
      c.step.result c.in-Some.ensures.value c.step.ensures.does;
  tail = c.step.ensures.tail;
}

pub returns-in-None : goal.returns-in-None
returns-in-None c = rw c.text_fault.ensures (record {
  does = line_unfit (length c.args.events.now) (length c.args.ties.now) c.args.reader c.args.bytes.now
      (tables c.args.case.now c.args.events.now c.args.ties.now) c.in-None.ensures.value;
  tail = (refl, refl);
})
