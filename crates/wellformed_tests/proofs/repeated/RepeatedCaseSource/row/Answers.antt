use Rattle.std.proofs.Common.{replicate}
use Rattle.wellformed_tests.proofs.Untied.{no_targets}
use Rattle.wellformed_tests.proofs.repeated.RepeatedCaseSource.row.Goals as goal

pub returns : goal.returns
returns c = no_targets (replicate c.args.self.now.count c.args.self.now.event) c.args.relation c.args.event
