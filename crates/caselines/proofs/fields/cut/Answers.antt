use Rattle.std.proofs.Common.{Some, ◌∙◌, sym, ap, take, ◌+◌}
use Rattle.std.proofs.lemmas.List.{take_rest}
use Rattle.caselines.proofs.Cutting.{parted, cut_first}
use Rattle.caselines.proofs.fields.cut.Goals as goal

pub returns-in_err-end : goal.returns-in_err-end
returns-in_err-end c = rw c.from_residual.ensures (cut_first c.args.stop c.args.bytes.now ∙ ap (parted c.args.bytes.now) (sym c.in_err-end.ensures))

pub returns : goal.returns
returns c = cut_first c.args.stop c.args.bytes.now ∙ ap (parted c.args.bytes.now) (sym c.in_ok-end.ensures) ∙ ap (λ b. Some (take c.in_ok-end.end c.args.bytes.now, b)) (sym (take_rest c.args.bytes.now (c.in_ok-end.end + 1)))
