-- Reading a case text line by line, as it goes on the plain case.
use Rattle.std.specs.Prelude.{◌≡◌, ℕ, ◌+◌, ◌-◌, ◌*◌, min, Bool, true, false, cond, ◌&&◌, List, [], ◌∷◌, ◌++◌, length, drop, replicate, Some, None, Ok, Err, MatchBool, Result, ◌==◌, nat_eq, nat_lt}
use Rattle.executions.specs.declared.events.Event.{Event as Record}
use Rattle.executions.specs.declared.faults.Cause.{Cause}
use Rattle.executions.specs.declared.faults.Cause.TheVariants.{TooShort, LineForm, LineOrder}
use Rattle.executions.specs.declared.faults.Fault.{Fault}
use Rattle.executions.specs.declared.faults.Layer.TheVariants.{Text as TextLayer}
use Rattle.executions.specs.declared.sorts.Sort.{Sort}
use Rattle.executions.specs.declared.ties.Relation.{Relation}
use Rattle.executions.specs.Execution.{unused}
use Rattle.executions.specs.Sorts.{sort_number}
use Rattle.executions.specs.Ties.{relation_number}
use Rattle.tables.specs.declared.kinds.OpenCase.{OpenCase}
use Rattle.tables.specs.Plain.{Plain, blank, short, enter_plain, tie_plain}
use Rattle.tables.specs.Tables.{tables, Represents}
use Rattle.caselines.specs.declared.lines.Line.{Line}
use Rattle.caselines.specs.declared.lines.Line.TheVariants.{Events, Event, Ties, Tie}
use Rattle.caselines.specs.Lines.{line_of}
use Rattle.casetext.specs.declared.kinds.Located.{Located}
use Rattle.casetext.specs.declared.kinds.Reader.{Reader}
use Rattle.casetext.specs.declared.kinds.Section.{Section}
use Rattle.casetext.specs.declared.kinds.Section.TheVariants.{Start, InEvents, InTies}
use Rattle.casetext.specs.declared.kinds.TextFault.{TextFault}
use Rattle.casetext.specs.declared.kinds.TextFault.TheVariants.{Text, Entry}

-- ---- faults

-- a fault of the text itself
abbrev pub text_fault : Cause → ℕ → TextFault
text_fault c n = Text (record { cause = c; layer = TextLayer; place = n })

-- ---- one line

-- what a line comes to: the case, and the reader for the next line or a fault
abbrev pub Step : Type 0
Step = Plain × Result Reader TextFault

-- the reader at the next line, in a section with so many lines left
abbrev pub moved : Reader → Section → ℕ → ℕ → Reader
moved s section left least = record { section = section; left = left; line = s.line + 1; least = least }

-- a line that is not of the form that its section wants
abbrev pub unfit : Reader → Plain → Step
unfit s p = (p, Err (text_fault LineForm s.line))

-- what an entry answered, with its line where it is refused
abbrev pub answered : {A : Type 0} → Reader → Reader → Result A Fault → Result Reader TextFault
answered s t (Ok _) = Ok t
answered s t (Err f) = Err (Entry f s.line)

-- a refused entry is passed up beside its line
abbrev pub located : {A : Type 0} → ℕ → Plain × Result A Fault → Plain × Result (Unit {0}) Located
located n q = (q.0, elim q.1 as (λ _. Result (Unit {0}) Located) [ Ok _ ↦ Ok tt | Err f ↦ Err (record { fault = f; line = n }) ])

-- a line that makes an entry
abbrev pub entry : {A : Type 0} → Reader → Reader → Plain × Result A Fault → Step
entry s t q = (q.0, answered s t q.1)

-- the record of an event line; a number that does not fit a byte is brought to 255, which is out of range too
abbrev pub record_of : Sort → ℕ → ℕ → Record
record_of k t n = record { thread = min t 255; sort = sort_number k; place = min n 255 }

-- by its numbers of five digits, a tie stands before another by relation, then first event, then second event
abbrev pub rank : Relation → ℕ → ℕ → ℕ
rank r a b = (relation_number r * 100000 + a) * 100000 + b

-- an event line, while lines are left
abbrev pub event_step : ℕ → ℕ → Reader → Sort → ℕ → ℕ → Plain → Step
event_step records words s k t n p =
    cond (s.left == 0) (unfit s p)
    (entry s (moved s InEvents (s.left - 1) 0) (enter_plain records words (record_of k t n) p))

-- the count of the ties, once no event line is left
abbrev pub ties_step : Reader → ℕ → Plain → Step
ties_step s n p = cond (s.left == 0) (p, Ok (moved s InTies n 0)) (unfit s p)

-- a tie line, while lines are left: behind the tie before it, and then its entry
abbrev pub tie_step : ℕ → ℕ → Reader → Relation → ℕ → ℕ → Plain → Step
tie_step records words s r a b p =
    cond (s.left == 0) (unfit s p)
    (cond (nat_lt (rank r a b) s.least) (p, Err (text_fault LineOrder s.line))
    (entry s (moved s InTies (s.left - 1) (rank r a b + 1)) (tie_plain records words (relation_number r) a b p)))

-- each section with each kind of line
abbrev pub in_section : Section → Line → ℕ → ℕ → Reader → Plain → Step
in_section Start (Events n) records words s p = (p, Ok (moved s InEvents n 0))
in_section Start (Event k t n) records words s p = unfit s p
in_section Start (Ties n) records words s p = unfit s p
in_section Start (Tie r a b) records words s p = unfit s p
in_section InEvents (Events n) records words s p = unfit s p
in_section InEvents (Event k t n) records words s p = event_step records words s k t n p
in_section InEvents (Ties n) records words s p = ties_step s n p
in_section InEvents (Tie r a b) records words s p = unfit s p
in_section InTies (Events n) records words s p = unfit s p
in_section InTies (Event k t n) records words s p = unfit s p
in_section InTies (Ties n) records words s p = unfit s p
in_section InTies (Tie r a b) records words s p = tie_step records words s r a b p

-- the bytes of a line
unfoldable pub line_step : ℕ → ℕ → Reader → List ℕ → Plain → Step
line_step records words s bs p = elim (line_of bs) as (λ _. Step) [ None ↦ unfit s p | Some l ↦ in_section s.section l records words s p ]

-- ---- the whole text

-- the reader at the first line
abbrev pub start : Reader
start = record { section = Start; left = 0; line = 1; least = 0 }

-- all tie lines are read
abbrev pub done : Reader → Bool
done s = elim s.section as (λ _. Bool) [ Start ↦ false | InEvents ↦ false | InTies ↦ nat_eq s.left 0 ]

abbrev pub empty : List ℕ → Bool
empty [] = true
empty (c ∷ cs) = false

-- at the end of the text, behind its last byte 10: the case, or a line that is missing, has no end, or is one too many
abbrev pub finish : Reader → Plain → List ℕ → Result Plain TextFault
finish s p bs = cond (done s && empty bs) (Ok p) (Err (text_fault LineForm s.line))

-- on with the next line, unless there was a fault
abbrev pub onward : Step → (Reader → Plain → Result Plain TextFault) → Result Plain TextFault
onward q next = elim q.1 as (λ _. Result Plain TextFault) [ Err f ↦ Err f | Ok s ↦ next s q.0 ]

-- the rest of the text, behind the bytes of a line that has begun
unfoldable pub scan : ℕ → ℕ → Reader → Plain → List ℕ → List ℕ → Result Plain TextFault
scan records words s p begun [] = finish s p begun
scan records words s p begun (c ∷ cs) =
    cond (c == 10)
    (onward (line_step records words s begun p) (λ t q. scan records words t q [] cs))
    (scan records words s p (begun ++ c ∷ []) cs)

-- read, on tables of so many records and words
abbrev pub read_plain : ℕ → ℕ → List ℕ → Result Plain TextFault
read_plain records words bs = cond (short records words) (Err (text_fault TooShort 0)) (scan records words start blank [] bs)

-- what stands in longer tables past the records and words of a case stays
abbrev pub Tails : List Record → List ℕ → List Record → List ℕ → Type 0
Tails rs ws rs' ws' = (drop 64 rs' ≡ drop 64 rs) × (drop 384 ws' ≡ drop 384 ws)

-- the lines of a text led from one case to another, or to a fault
abbrev pub Scanned : ℕ → ℕ → List ℕ → Plain → Plain → Result (Unit {0}) TextFault → Type 0
Scanned records words bs p q (Ok _) = scan records words start p [] bs ≡ Ok q
Scanned records words bs p q (Err f) = scan records words start p [] bs ≡ Err f

-- ---- what read promises

-- Accepted: the tables represent the case that was read. Refused: short tables are as they were, others are blank.
abbrev pub Reads : List ℕ → List Record → List ℕ → List Record → List ℕ → Result OpenCase TextFault → Type 0
Reads bs rs ws rs' ws' (Ok c) =
    (p : Plain) × (read_plain (length rs) (length ws) bs ≡ Ok p) × Represents (tables c rs' ws') p × Tails rs ws rs' ws'
Reads bs rs ws rs' ws' (Err f) =
    (read_plain (length rs) (length ws) bs ≡ Err f)
    × MatchBool (short (length rs) (length ws)) ((rs' ≡ rs) × (ws' ≡ ws)) ((rs' ≡ replicate 64 unused ++ drop 64 rs) × (ws' ≡ replicate 384 0 ++ drop 384 ws))
