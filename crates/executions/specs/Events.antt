-- Which three bytes are an event, and what kind of event.
use Rattle.std.specs.Prelude.{Bool, ◌&&◌, ◌||◌, ◌==◌, nat_le}
use Rattle.executions.specs.declared.events.Event.{Event}
use Rattle.executions.specs.declared.sorts.Sort.{Sort}
use Rattle.executions.specs.declared.sorts.Sort.TheVariants.{ReadOnce, ReadAcquire, WriteOnce, WriteRelease, Rmb, Blank}
use Rattle.executions.specs.Sorts.{sort_number}

-- the event is of that sort
abbrev pub is : Sort → Event → Bool
is s e = e.sort == sort_number s

abbrev pub is_read : Event → Bool
is_read e = is ReadOnce e || is ReadAcquire e

abbrev pub is_write : Event → Bool
is_write e = is WriteOnce e || is WriteRelease e

-- the fences are the sorts from rmb to blank
abbrev pub is_fence : Event → Bool
is_fence e = nat_le (sort_number Rmb) e.sort && nat_le e.sort (sort_number Blank)

-- the event is in one of the program's eight threads
abbrev pub in_program : Event → Bool
in_program e = nat_le 1 e.thread && nat_le e.thread 8

-- the three bytes are a write once in thread 0
abbrev pub is_initial : Event → Bool
is_initial e = is WriteOnce e && e.thread == 0

-- reads and writes have a place from 1 to 16
abbrev pub has_place : Event → Bool
has_place e = nat_le 1 e.place && nat_le e.place 16

-- the three bytes are an event: a read or write of the program or an initial write, at its place, or a fence of the program
abbrev pub in_range : Event → Bool
in_range e =
    ((is_read e || is_write e) && (has_place e && (in_program e || is_initial e)))
    || (is_fence e && (e.place == 0 && in_program e))
