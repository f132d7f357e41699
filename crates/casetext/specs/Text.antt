-- The case text: the bytes of a case, from its events and ties.
use Rattle.std.specs.Prelude.{ℕ, zero, suc, ◌+◌, ◌/◌, ◌%◌, cond, ◌&&◌, List, [], ◌∷◌, ◌++◌, length, Some, None, nat_lt}
use Rattle.std.specs.List.{flat_map}
use Rattle.executions.specs.declared.events.Event.{Event as Record}
use Rattle.executions.specs.Execution.{Execution, count}
use Rattle.executions.specs.Sorts.{sort_of}
use Rattle.executions.specs.Ties.{relation_of}
use Rattle.caselines.specs.declared.lines.Line.{Line}
use Rattle.caselines.specs.declared.lines.Line.TheVariants.{Events, Event, Ties, Tie}
use Rattle.caselines.specs.Lines.{spelled}

-- the line of an event; bytes that have no sort have no line
abbrev pub event_lines : Record → List Line
event_lines e = elim (sort_of e.sort) as (λ _. List Line) [ None ↦ [] | Some s ↦ Event s e.thread e.place ∷ [] ]

-- The ties that 64 events could have are numbered by relation, then first event, then second event.
-- The line of the tie of a number, where the case has it.
unfoldable pub tie_lines : Execution → ℕ → List Line
tie_lines x k = elim (relation_of (k / 4096 + 1)) as (λ _. List Line) [
  | None ↦ []
  | Some r ↦ cond (nat_lt (k / 64 % 64) (count x) && (nat_lt (k % 64) (count x) && x.ties r (k / 64 % 64) (k % 64))) (Tie r (k / 64 % 64) (k % 64) ∷ []) []
]

-- the lines of the ties with numbers below n, in order
unfoldable pub ties_below : Execution → ℕ → List Line
ties_below x zero = []
ties_below x (suc n) = ties_below x n ++ tie_lines x n

-- all of them
abbrev pub ties_in : Execution → List Line
ties_in x = ties_below x 24576

-- the two sections, each after its count
abbrev pub lines_of : Execution → List Line
lines_of x = (Events (count x) ∷ flat_map event_lines x.events) ++ (Ties (length (ties_in x)) ∷ ties_in x)

-- a line ends with byte 10
abbrev pub line : Line → List ℕ
line l = spelled l ++ 10 ∷ []

-- the text of a case
unfoldable pub text_of : Execution → List ℕ
text_of x = flat_map line (lines_of x)
