use Rattle.std.proofs.Common.{rules}
use Rattle.tables.proofs.Sourcing.{row_some, row_past, row_none}
use Rattle.tables.proofs.source.TableSourceCaseSource.row.Goals as goal

pub returns-in_default : goal.returns-in_default
returns-in_default c = search (rules, row_none)

pub returns-then-event-count : goal.returns-then-event-count
returns-then-event-count c = search (rules, row_some)

pub returns-else-event-count : goal.returns-else-event-count
returns-else-event-count c = search (rules, row_past)
