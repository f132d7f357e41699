use Rattle.std.proofs.Common.{sym}
use Rattle.executions.specs.declared.ties.Relation.TheVariants.{Co}
use Rattle.sources.specs.Snapshot.{execution}
use Rattle.wellformed.proofs.Deciding.{ties_fine}
use Rattle.wellformed.proofs.test_case.Goals as goal

pub test_coherence-requires : goal.test_coherence-requires
test_coherence-requires c = λ a b t. (ties_fine (execution c.args.case.now) c.requires (sym c.in_ok-test_ties.ensures) Co a b t).ends
