use Rattle.sources.specs.Snapshot.{execution}
use Rattle.casewriter.specs.Listing.{lines_ahead}
use Rattle.casewriter.proofs.Gathering.{from_start}
use Rattle.casewriter.proofs.ties.TieNumbers.of.Goals as goal

pub returns-clause-all : goal.returns-clause-all
unfolding lines_ahead
returns-clause-all c = from_start (execution c.args.case.now)
