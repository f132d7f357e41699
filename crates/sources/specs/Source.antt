-- What the answers of a case source mean.
use Rattle.std.specs.Prelude.{ℕ, false, ◌&&◌, Some, None, nat_lt}
use Rattle.rows.specs.Row.{Set}
use Rattle.executions.specs.Execution.{Execution, count}
use Rattle.executions.specs.Ties.{relation_of}

-- the execution with just the ties that go from its events to numbers below 64
abbrev pub bounded : Execution → Execution
bounded x = record { events = x.events; ties = λ r a b. nat_lt a (count x) && (nat_lt b 64 && x.ties r a b) }

-- the events to which event a is tied in the relation of that number: none for an unknown relation or event
unfoldable pub targets : Execution → ℕ → ℕ → Set
targets x number a b = elim (relation_of number) [ None ↦ false | Some r ↦ (bounded x).ties r a b ]
