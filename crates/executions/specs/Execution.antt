-- A candidate execution: its events, numbered from 0 in the order of the list, and six sets of pairs of events.
use Rattle.std.specs.Prelude.{ℕ, Bool, List, length, slice_index_or}
use Rattle.executions.specs.declared.events.Event.{Event}
use Rattle.executions.specs.declared.ties.Relation.{Relation}

-- for each relation a set of pairs, by its test
abbrev pub Ties : Type 0
Ties = Relation → ℕ → ℕ → Bool

pub record Execution : Type 0 where
  pub events : List Event
  pub ties : Ties

-- how many events there are
abbrev pub count : Execution → ℕ
count x = length x.events

-- the three bytes of a record that holds no event
abbrev pub unused : Event
unused = record { thread = 0; sort = 0; place = 0 }

-- the event of a number
abbrev pub event_at : Execution → ℕ → Event
event_at x a = slice_index_or x.events a unused
