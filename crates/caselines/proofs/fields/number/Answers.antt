use Rattle.std.proofs.Common.{◌≤◌, length, Some, sym, ap, ◌∙◌, true≢false, arith}
use Rattle.std.specs.Str.{all_ascii_digits}
use Rattle.std.proofs.lemmas.Bool.{eqb-true, eqb-false}
use Rattle.std.proofs.lemmas.List.{at_drop_all}
use Rattle.caselines.specs.Fields.{reading}
use Rattle.caselines.proofs.Numbering.{no_number, is_number, digit_fails, leading, not_leading}
use Rattle.caselines.proofs.fields.number.Goals as goal
use Rattle.caselines.proofs.fields.number.Goals.{then-is_empty-via-then-is_empty, then-is_empty-via-else-is_empty+then-field-gt-LONGEST, then-is_empty-via-else-is_empty+else-field-gt-LONGEST+then-leads_with_zero}

pub returns-then-is_empty : goal.returns-then-is_empty
returns-then-is_empty c = no_number c.args.field.now (λ n. elim c.then-is_empty.branch [
  | then-is_empty-via-then-is_empty w ↦ let none = eqb-true (length c.args.field.now) 0 (sym w.if-is_empty.ensures) in omega (arith, n.some)
  | then-is_empty-via-else-is_empty+then-field-gt-LONGEST w ↦ let many = w.if-field-gt-LONGEST in omega (arith, n.few)
  | then-is_empty-via-else-is_empty+else-field-gt-LONGEST+then-leads_with_zero w ↦ let leads = leading c.args.field.now (sym w.if-leads_with_zero.ensures) in n.plain (λ e. omega (arith, leads.0)) leads.1
])

pub returns-then-not-is_ascii_digit : goal.returns-then-not-is_ascii_digit
returns-then-not-is_ascii_digit c =
    no_number c.args.field.now (λ n. digit_fails c.args.field.now c.loop-digit.digit-index (omega arith) c.loop-digit.invariant.1 (λ yes. true≢false (sym yes ∙ sym c.if-not-is_ascii_digit.ensures.value)) n.digits)

pub returns : goal.returns
returns c =
    let none = eqb-false (length c.args.field.now) 0 (sym c.if-is_empty.ensures) in
    let end : length c.args.field.now ≤ c.loop-digit.digit-index = omega arith in
    ap (λ n. Some n) (sym (c.loop-digit.invariant.0 ∙ at_drop_all (reading c.loop-digit.n) c.args.field.now c.loop-digit.digit-index end))
    ∙ sym (is_number c.args.field.now (record {
      some = omega (arith, none);
      few = c.if-field-gt-LONGEST.false;
      plain = λ one zero. one (not_leading c.args.field.now (omega (arith, none)) (sym c.if-leads_with_zero.ensures) zero);
      digits = c.loop-digit.invariant.1 ∙ at_drop_all all_ascii_digits c.args.field.now c.loop-digit.digit-index end;
    }))
