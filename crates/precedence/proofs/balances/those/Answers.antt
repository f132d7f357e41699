use Rattle.std.proofs.Common.{rules}
use Rattle.std.proofs.lemmas.Bool.Decides.{nat_tests}
use Rattle.std.proofs.Common.{arith}
use Rattle.precedence.proofs.Gathering.{gather_none, gather_yes, gather_no}
use Rattle.precedence.proofs.balances.those.Goals as goal
use Rattle.precedence.proofs.balances.those.Goals.{then-test, else-test}

pub loop-e-init : goal.loop-e-init
loop-e-init g c = gather_none _

pub loop-e-preserved : goal.loop-e-preserved
loop-e-preserved g c = search (rules, gather_yes, gather_no)

pub returns : goal.returns
returns g c = grind (arith, nat_tests)
