use Rattle.std.proofs.Common.{rules}
use Rattle.tables.proofs.Sourcing.{count_held}
use Rattle.tables.proofs.source.TableSourceCaseSource.count.Goals as goal

pub returns : goal.returns
returns c = search (rules, count_held)
