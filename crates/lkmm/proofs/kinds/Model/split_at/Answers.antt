use Rattle.std.proofs.Common.{◌∙◌}
use Rattle.lkmm.proofs.Splitting.{split_is, round_is}
use Rattle.lkmm.proofs.kinds.Model.split_at.Goals as goal

pub returns-in_err-write : goal.returns-in_err-write
returns-in_err-write c = rw c.from_residual.ensures (λ v. split_is c.args.self.now c.args.read v ∙ c.in_err-write.ensures v)

pub returns : goal.returns
returns c =
    let m = c.args.self.now in
    let h = c.in_ok-write.ensures.1 in (
      split_is m c.args.read c.in_ok-write.write ∙ h,
      round_is m c.args.read c.between.result c.in_ok-write.write h c.between.ensures.read_before c.between.ensures.written_after,
    )
