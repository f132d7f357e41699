use Rattle.std.proofs.Common.{rules}
use Rattle.std.proofs.lemmas.List.{length-take}
use Rattle.tables.proofs.Sourcing.{event_none, event_read}
use Rattle.tables.proofs.source.TableSourceCaseSource.event.Goals as goal

pub returns-then-number-self : goal.returns-then-number-self
returns-then-number-self c = search (rules, event_none, length-take)

pub returns : goal.returns
returns c = search (rules, event_read)
