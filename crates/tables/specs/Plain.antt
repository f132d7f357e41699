-- The plain case that goes beside the two tables, and what each call does to it.
-- Of the tables a call sees here just the lengths. Each call is tested for its causes in order; the first that is met is
-- the answer and changes nothing.
use Rattle.std.specs.Prelude.{ℕ, Bool, false, cond, not, ◌&&◌, ◌||◌, [], ◌∷◌, ◌++◌, Some, None, Ok, Err, Result, ◌==◌, nat_le, nat_lt}
use Rattle.rows.specs.Row.{any}
use Rattle.executions.specs.declared.events.Event.{Event}
use Rattle.executions.specs.declared.faults.Cause.{Cause}
use Rattle.executions.specs.declared.faults.Cause.TheVariants.{TooShort, TooManyEvents, OutOfRange, NoSuchEvent, NoSuchRelation, DoesNotFit, OverLimit, NoSuchTie}
use Rattle.executions.specs.declared.faults.Fault.{Fault}
use Rattle.executions.specs.declared.faults.Layer.TheVariants.{Entry, Check}
use Rattle.executions.specs.declared.ties.Relation.{Relation}
use Rattle.executions.specs.declared.ties.Relation.TheVariants.{Rf, Co, Addr, Data, Ctrl, Rmw}
use Rattle.executions.specs.Events.{in_range}
use Rattle.executions.specs.Execution.{Execution, Ties, count, event_at}
use Rattle.executions.specs.Ties.{relation_number, relation_of, fits}
use Rattle.sources.specs.Source.{bounded}
use Rattle.wellformed.specs.Faults.{first_fault}

-- a case takes events and ties while it is open, and rulings once it is sealed
pub data Mark : Type 0 where
  Open : Mark
  Sealed : Mark

pub record Plain : Type 0 where
  pub execution : Execution
  pub mark : Mark

-- no event, no tie, open
abbrev pub blank : Plain
blank = record { execution = record { events = []; ties = λ r a b. false }; mark = Open }

-- fewer than 64 records or fewer than 384 words
abbrev pub short : ℕ → ℕ → Bool
short records words = nat_lt records 64 || nat_lt words 384

-- a refusal by one of the calls below
abbrev pub refusal : Cause → ℕ → Fault
refusal c n = record { cause = c; layer = Entry; place = n }

abbrev pub refused : {A : Type 0} → Plain → Cause → ℕ → Plain × Result A Fault
refused p c n = (p, Err (refusal c n))

-- ---- open

abbrev pub open_plain : ℕ → ℕ → Result Plain Fault
open_plain records words = cond (short records words) (Err (refusal TooShort 0)) (Ok blank)

-- ---- enter

-- the case with one event more
abbrev pub entered : Event → Plain → Plain
entered e p = record { execution = record { events = p.execution.events ++ e ∷ []; ties = p.execution.ties }; mark = p.mark }

abbrev pub enter_plain : ℕ → ℕ → Event → Plain → Plain × Result ℕ Fault
enter_plain records words e p =
    cond (short records words) (refused p TooShort 0)
    (cond (nat_le 64 (count p.execution)) (refused p TooManyEvents 64)
    (cond (not (in_range e)) (refused p OutOfRange (count p.execution))
    (entered e p, Ok (count p.execution))))

-- ---- tie and untie

-- what both test first: the tables, the relation, the two events
abbrev pub named : ℕ → ℕ → ℕ → ℕ → ℕ → ℕ → Result Relation Fault
named records words n number a b =
    cond (short records words) (Err (refusal TooShort 0))
    (elim (relation_of number) [
      | None ↦ Err (refusal NoSuchRelation number)
      | Some r ↦ cond (not (nat_lt a n)) (Err (refusal NoSuchEvent a)) (cond (not (nat_lt b n)) (Err (refusal NoSuchEvent b)) (Ok r))
    ])

-- some event has an rf tie to the read b
abbrev pub has_rf : ℕ → Ties → ℕ → Bool
has_rf n ties b = any n (λ a. ties Rf a b)

-- the event e stands in an rmw tie
abbrev pub in_rmw : ℕ → Ties → ℕ → Bool
in_rmw n ties e = any n (λ d. ties Rmw e d || ties Rmw d e)

-- one tie more would be one too many among n events: a read has one rf tie, and an event stands in one rmw tie
abbrev pub full : ℕ → Ties → Relation → ℕ → ℕ → Bool
full n ties Rf a b = has_rf n ties b
full n ties Co a b = false
full n ties Addr a b = false
full n ties Data a b = false
full n ties Ctrl a b = false
full n ties Rmw a b = in_rmw n ties a || in_rmw n ties b

-- the tie is there, or there is no room for it
abbrev pub taken : ℕ → Ties → Relation → ℕ → ℕ → Bool
taken n ties r a b = ties r a b || full n ties r a b

-- the pair from a to b, as a set
abbrev pub pair : Relation → ℕ → ℕ → Ties
pair r a b r' a' b' = relation_number r' == relation_number r && (a' == a && b' == b)

-- the case with the tie as well, and the case without it
abbrev pub tied : Relation → ℕ → ℕ → Plain → Plain
tied r a b p = record { execution = record { events = p.execution.events; ties = λ r' a' b'. p.execution.ties r' a' b' || pair r a b r' a' b' }; mark = p.mark }

abbrev pub untied : Relation → ℕ → ℕ → Plain → Plain
untied r a b p = record { execution = record { events = p.execution.events; ties = λ r' a' b'. p.execution.ties r' a' b' && not (pair r a b r' a' b') }; mark = p.mark }

-- the tests and the work of tie, and of untie, once the relation and the events are known
abbrev pub tie_known : Relation → ℕ → ℕ → Plain → Plain × Result (Unit {0}) Fault
tie_known r a b p =
    cond (not (fits r a (event_at p.execution a) b (event_at p.execution b))) (refused p DoesNotFit a)
    (cond (taken (count p.execution) p.execution.ties r a b) (refused p OverLimit b)
    (tied r a b p, Ok tt))

abbrev pub untie_known : Relation → ℕ → ℕ → Plain → Plain × Result (Unit {0}) Fault
untie_known r a b p = cond (not (p.execution.ties r a b)) (refused p NoSuchTie a) (untied r a b p, Ok tt)

-- a call that names a tie by numbers
abbrev pub on_named : (Relation → ℕ → ℕ → Plain → Plain × Result (Unit {0}) Fault) → ℕ → ℕ → ℕ → ℕ → ℕ → Plain → Plain × Result (Unit {0}) Fault
on_named call records words number a b p =
    elim (named records words (count p.execution) number a b) [ Err f ↦ (p, Err f) | Ok r ↦ call r a b p ]

abbrev pub tie_plain : ℕ → ℕ → ℕ → ℕ → ℕ → Plain → Plain × Result (Unit {0}) Fault
tie_plain = on_named tie_known

abbrev pub untie_plain : ℕ → ℕ → ℕ → ℕ → ℕ → Plain → Plain × Result (Unit {0}) Fault
untie_plain = on_named untie_known

-- ---- seal and reopen

-- the same case with another mark
abbrev pub marked : Mark → Plain → Plain
marked m p = record { execution = p.execution; mark = m }

-- a refusal by the check of a whole case
abbrev pub check_refusal : Cause → ℕ → Fault
check_refusal c n = record { cause = c; layer = Check; place = n }

-- seal tests the tables, then the case for its first fault
abbrev pub seal_plain : ℕ → ℕ → Plain → Plain × Result (Unit {0}) Fault
seal_plain records words p =
    cond (short records words) (p, Err (check_refusal TooShort 0))
    (elim (first_fault (bounded p.execution)) [ None ↦ (marked Sealed p, Ok tt) | Some f ↦ (p, Err f) ])

abbrev pub reopen_plain : Plain → Plain
reopen_plain p = marked Open p
