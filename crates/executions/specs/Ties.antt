-- The six relations that tie events, and which events each fits.
use Rattle.std.specs.Prelude.{ℕ, Bool, not, ◌&&◌, ◌||◌, List, [], ◌∷◌, codes, Option, ◌==◌, nat_lt}
use Rattle.executions.specs.declared.events.Event.{Event}
use Rattle.executions.specs.declared.ties.Relation.{Relation}
use Rattle.executions.specs.declared.ties.Relation.TheVariants.{Rf, Co, Addr, Data, Ctrl, Rmw}
use Rattle.executions.specs.Sorts.{numbered}
use Rattle.executions.specs.Events.{is_read, is_write, in_program}

-- the number of each relation
abbrev pub relation_number : Relation → ℕ
relation_number Rf = 1
relation_number Co = 2
relation_number Addr = 3
relation_number Data = 4
relation_number Ctrl = 5
relation_number Rmw = 6

-- all of them
abbrev pub relations : List Relation
relations = Rf ∷ Co ∷ Addr ∷ Data ∷ Ctrl ∷ Rmw ∷ []

-- the relation of a number
abbrev pub relation_of : ℕ → Option Relation
relation_of = numbered relation_number relations

-- the name of each relation
abbrev pub relation_name : Relation → List ℕ
relation_name Rf = codes "rf"
relation_name Co = codes "co"
relation_name Addr = codes "addr"
relation_name Data = codes "data"
relation_name Ctrl = codes "ctrl"
relation_name Rmw = codes "rmw"

-- po: event b, which is y, is a later one of the same thread of the program as event a, which is x
abbrev pub po : ℕ → Event → ℕ → Event → Bool
po a x b y = nat_lt a b && (in_program x && x.thread == y.thread)

-- both records name one place; two fences do too
abbrev pub same_place : Event → Event → Bool
same_place x y = x.place == y.place

-- what every dependency has: it goes from a read to an event later in program order
abbrev pub depends : ℕ → Event → ℕ → Event → Bool
depends a x b y = is_read x && po a x b y

-- a tie of the relation may go from event a, which is x, to event b, which is y
abbrev pub fits : Relation → ℕ → Event → ℕ → Event → Bool
-- from a write to a read of its place
fits Rf a x b y = is_write x && (is_read y && same_place x y)
-- from a write to a different write of its place that is not an initial one
fits Co a x b y = is_write x && (is_write y && (same_place x y && (not (a == b) && not (y.thread == 0))))
fits Addr a x b y = depends a x b y && (is_read y || is_write y)
fits Data a x b y = depends a x b y && is_write y
fits Ctrl a x b y = depends a x b y
fits Rmw a x b y = depends a x b y && (is_write y && same_place x y)
