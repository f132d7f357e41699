use Rattle.std.proofs.Common.{sym, ap, ◌∙◌, arith}
use Rattle.rows.specs.Row.{Set}
use Rattle.rows.proofs.Any.{any_none}
use Rattle.rows.proofs.Bits.{bit_zero}
use Rattle.wellformed.proofs.Rows.{gathered_more, gathered_all}
use Rattle.wellformed.proofs.ties.all_targets.Goals as goal

pub loop-a-init : goal.loop-a-init
loop-a-init c = λ e. bit_zero e ∙ sym (any_none _)

pub loop-a-preserved : goal.loop-a-preserved
loop-a-preserved c = λ e. gathered_more c.loop-a.targets c.row-targets.result e c.loop-a.a _ (c.loop-a.invariant e) (ap (λ (s : Set). s e) c.row-targets.ensures)

pub returns : goal.returns
returns c = λ e. gathered_all c.loop-a.targets e c.loop-a.a _ _ (omega (arith, c.count-a-end.ensures)) (c.loop-a.invariant e)
