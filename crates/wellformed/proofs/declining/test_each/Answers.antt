use Rattle.std.proofs.Common.{sym, arith}
use Rattle.std.proofs.lemmas.Result.{err_from_is_err_and}
use Rattle.wellformed.proofs.First.{first_none, first_more, first_stop, first_all}
use Rattle.wellformed.proofs.declining.test_each.Goals as goal

pub loop-i-init : goal.loop-i-init
loop-i-init g c = λ faults h. first_none faults

pub loop-i-preserved : goal.loop-i-preserved
loop-i-preserved g c = λ faults h. first_more faults c.loop-i.i (c.loop-i.invariant faults h) (sym (h c.loop-i.i _ (omega arith) c.in_ok-test.ensures))

pub returns-in_err-test : goal.returns-in_err-test
returns-in_err-test g c =
    let p = err_from_is_err_and c.from_residual.result c.from_residual.ensures.1 in
    rw (p.1, p.2)
    (λ faults h. first_stop faults c.loop-i.i c.args.n _ (omega arith) (c.loop-i.invariant faults h) (sym (h c.loop-i.i _ (omega arith) c.in_err-test.ensures)))

pub returns : goal.returns
returns g c = λ faults h. first_all faults c.loop-i.i c.args.n (omega arith) (omega arith) (c.loop-i.invariant faults h)
