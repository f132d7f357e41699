-- What a text means as a source.
use Rattle.std.specs.Prelude.{ℕ, List, take, Ok, Err}
use Rattle.executions.specs.declared.events.Event.{Event}
use Rattle.executions.specs.Execution.{Execution}
use Rattle.executions.specs.Words.{ties_of}
use Rattle.tables.specs.Plain.{blank}
use Rattle.casetext.specs.Reading.{read_plain}

-- the case that read would enter into tables of 64 records and 384 words, or the blank case where it refuses
unfoldable pub meant : List ℕ → Execution
meant bs = elim (read_plain 64 384 bs) as (λ _. Execution) [ Ok p ↦ p.execution | Err f ↦ blank.execution ]

-- what two tables hold with a count of events
abbrev pub holding : ℕ → List Event → List ℕ → Execution
holding n rs ws = record { events = take n rs; ties = ties_of ws }
