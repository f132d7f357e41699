-- What the values of the code stand for: the list of a cycle's events, and the place of each event in an order.
use Rattle.std.specs.Prelude.{ℕ, List, take, slice_index}
use Rattle.searches.specs.declared.kinds.Cycle.{Cycle}
use Rattle.searches.specs.declared.kinds.Order.{Order}

-- the events of a cycle, in turn
unfoldable pub listed : Cycle → List ℕ
listed c = take c.steps c.events

-- the place of an event
unfoldable pub place : Order → ℕ → ℕ
place o a = slice_index o.places a
