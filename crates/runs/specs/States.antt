-- What a state and two tables stand for.
use Rattle.std.specs.Prelude.{◌≡◌, ℕ, min, List, length, take, drop, None, Ok, Err, Result}
use Rattle.executions.specs.declared.events.Event.{Event}
use Rattle.executions.specs.declared.faults.Fault.{Fault}
use Rattle.sources.specs.Source.{bounded}
use Rattle.wellformed.specs.Faults.{first_fault}
use Rattle.tables.specs.Plain.{Plain, open_plain}
use Rattle.tables.specs.Tables.{Tables, tables, plain_of, sealed_plain, Exact}
use Rattle.runs.specs.declared.kinds.Answer.{Answer}
use Rattle.runs.specs.declared.kinds.Call.{Call}
use Rattle.runs.specs.declared.kinds.State.{State}
use Rattle.runs.specs.declared.kinds.State.TheVariants.{Open, Sealed}
use Rattle.runs.specs.Runs.{Run}

-- the plain case that the tables hold
abbrev pub plain : State → List Event → List ℕ → Plain
plain (Open c) rs ws = plain_of (tables c rs ws)
plain (Sealed c) rs ws = sealed_plain c rs ws

-- the tables with the number of events of the case
abbrev pub tables_of : State → List Event → List ℕ → Tables
tables_of (Open c) rs ws = record { count = c.count; records = rs; words = ws }
tables_of (Sealed c) rs ws = record { count = c.count; records = rs; words = ws }

-- a sealed case is well formed on its tables
abbrev pub StillFormed : State → List Event → List ℕ → Type 0
StillFormed (Open c) rs ws = Unit {0}
StillFormed (Sealed c) rs ws = first_fault (bounded (sealed_plain c rs ws).execution) ≡ None

-- What a list of calls comes to on two tables: open is refused and nothing changes; or as many calls as there is room for answers are a run
-- from the blank case, and the tables then represent exactly the plain case at its end.
abbrev pub RunOn : List Call → List Event → List ℕ → List Answer → List Event → List ℕ → List Answer → Result State Fault → Type 0
RunOn cs rs ws gs rs' ws' gs' (Err f) = (open_plain (length rs) (length ws) ≡ Err f) × (rs' ≡ rs) × (ws' ≡ ws) × (gs' ≡ gs)
RunOn cs rs ws gs rs' ws' gs' (Ok s) =
    Run (length rs) (length ws) (take (min (length cs) (length gs)) cs) (take (min (length cs) (length gs)) gs') (plain s rs' ws')
    × Exact (tables_of s rs' ws') × (drop (min (length cs) (length gs)) gs' ≡ drop (min (length cs) (length gs)) gs)
