use Rattle.std.proofs.lemmas.Bool.Decides.{nat_tests}
use Rattle.std.proofs.Common.{arith}
use Rattle.grace.specs.Law.{enlarged}
use Rattle.precedence.proofs.enlarging.enlarged_pb.Goals as goal

pub returns : goal.returns
unfolding enlarged
returns c = grind (arith, nat_tests)
