use Rattle.std.proofs.Common.{sym}
use Rattle.std.proofs.lemmas.List.{length-replicate}
use Rattle.wellformed_tests.proofs.repeated.RepeatedCaseSource.count.Goals as goal

pub returns : goal.returns
returns c = sym (length-replicate c.args.self.now.count c.args.self.now.event)
