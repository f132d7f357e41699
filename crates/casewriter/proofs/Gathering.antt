-- The lines of a text, one after another.
use Rattle.std.proofs.Common.{◌≡◌, ℕ, zero, suc, ◌+◌, ◌-◌, ◌/◌, ◌%◌, ◌<◌, ◌≤◌, Bool, true, false, cond, ◌&&◌, ltb, List, [], ◌∷◌, ◌++◌, length, get_or, take, Some, None, Option, sym, refl, ap, ◌∙◌, arith}
use Rattle.std.specs.Bool.{then_some}
use Rattle.std.proofs.lemmas.Bool.Decides.{nat_tests}
use Rattle.std.specs.List.{flat_map, fold}
use Rattle.std.specs.Option.{option_len}
use Rattle.std.specs.Iterator.{Yields}
use Rattle.std.proofs.lemmas.List.{append-nil, append_assoc, take_more, flat_map_more, length-append}
use Rattle.std.proofs.lemmas.Bool.{and_right}
use Rattle.executions.specs.declared.events.Event.{Event as Record}
use Rattle.executions.specs.declared.ties.Relation.{Relation}
use Rattle.executions.specs.Execution.{Execution, count, unused}
use Rattle.executions.specs.Ties.{relation_of}
use Rattle.caselines.specs.declared.lines.Line.{Line}
use Rattle.caselines.specs.declared.lines.Line.TheVariants.{Events, Ties, Tie}
use Rattle.casetext.specs.Text.{event_lines, tie_lines, ties_below, ties_in, line, text_of}
use Rattle.casewriter.specs.Laid.{listed, Bare}
use Rattle.sources.specs.Snapshot.{execution}
use Rattle.casewriter.specs.declared.ties.TieNumbers.{TieNumbers}
use Rattle.casewriter.specs.Listing.{lines_from, lines_ahead, GivesNumber}
use Rattle.casetext.proofs.Forward.{joined_append}
use Rattle.casetext.proofs.Listing.{lines_more, listed_length}

-- ---- the tie of a number

-- the lines of the tie of a number, by its relation
abbrev by_relation : Execution → ℕ → Option Relation → List Line
by_relation x k None = []
by_relation x k (Some r) = cond (ltb (k / 64 % 64) (count x) && (ltb (k % 64) (count x) && x.ties r (k / 64 % 64) (k % 64))) (Tie r (k / 64 % 64) (k % 64) ∷ []) []

pub line_by : (x : Execution) (k : ℕ) (o : Option Relation) → o ≡ relation_of (k / 4096 + 1) → by_relation x k o ≡ tie_lines x k
unfolding tie_lines
line_by x k o e = grind (arith, nat_tests)

-- the same of an option
pub listed_some : (t : Bool) (l : Line) → listed (then_some t l) ≡ cond t (l ∷ []) []
listed_some true l = refl
listed_some false l = refl

pub all_three : (p q t s : Bool) → (p && q) ≡ true → s ≡ t → s ≡ (p && (q && t))
all_three p q t s h e = grind (arith, nat_tests)

pub not_both : (p q t s : Bool) → (p && q) ≡ false → s ≡ false → s ≡ (p && (q && t))
not_both p q t s h e = grind (arith, nat_tests)

-- ---- one line more

pub line_more : (ls : List Line) (l : Line) → flat_map line ls ++ line l ≡ flat_map line (ls ++ l ∷ [])
line_more ls l = flat_map_more line [] ls l

pub event_more : (es : List Record) (i : ℕ) (d : Record) (o : Option Line) → i < length es → d ≡ get_or es i unused → listed o ≡ event_lines d
    → flat_map line (flat_map event_lines (take i es)) ++ flat_map line (listed o) ≡ flat_map line (flat_map event_lines (take (i + 1) es))
event_more es i d o h same lines =
    sym (joined_append line (flat_map event_lines (take i es)) (listed o))
    ∙ ap (flat_map line) (ap (λ l. flat_map event_lines (take i es) ++ l) (lines ∙ ap event_lines same) ∙ flat_map_more event_lines [] (take i es) (get_or es i unused) ∙ ap (flat_map event_lines) (sym (take_more es i unused h)))

none_below : (x : Execution) → ties_below x 0 ≡ []
unfolding ties_below
none_below x = refl

pub ties_few : (x : Execution) → length (ties_in x) ≤ 24576
ties_few x = listed_length x 24576

-- ---- the lines that are left

from_all : (x : Execution) (n k : ℕ) → ties_below x k ++ lines_from x n k ≡ ties_below x (k + n)
unfolding lines_from
from_all x zero k = grind (arith, nat_tests, append-nil)
from_all x (suc n) k =
    sym (append_assoc (ties_below x k) (tie_lines x k) (lines_from x n (k + 1)))
    ∙ ap (λ l. l ++ lines_from x n (k + 1)) (sym (lines_more x k))
    ∙ from_all x n (k + 1)
    ∙ ap (ties_below x) (omega arith)

-- all of them at the start
pub from_start : (x : Execution) → lines_from x 24576 0 ≡ ties_in x
from_start x = ap (λ l. l ++ lines_from x 24576 0) (sym (none_below x)) ∙ from_all x 24576 0

-- one number on
from_next : (x : Execution) (k : ℕ) → k < 24576 → lines_from x (24576 - k) k ≡ tie_lines x k ++ lines_from x (24576 - (k + 1)) (k + 1)
unfolding lines_from
from_next x k h = grind (arith, nat_tests)

from_end : (x : Execution) (k : ℕ) → 24576 ≤ k → lines_from x (24576 - k) k ≡ []
unfolding lines_from
from_end x k h = grind (arith, nat_tests)

-- numbers with no tie add nothing
from_skip : (x : Execution) (n k : ℕ) → ((j : ℕ) → j < n → tie_lines x (k + j) ≡ []) → k + n ≤ 24576 → lines_from x (24576 - k) k ≡ lines_from x (24576 - (k + n)) (k + n)
from_skip x zero k none h = ap (λ m. lines_from x (24576 - m) m) (omega arith)
from_skip x (suc n) k none h =
    let at : k + suc n ≡ (k + n) + 1 = omega arith in
    from_skip x n k (λ j l. none j (omega arith)) (omega arith)
    ∙ from_next x (k + n) (omega arith)
    ∙ ap (λ l. l ++ lines_from x (24576 - (k + n + 1)) (k + n + 1)) (none n (omega arith))
    ∙ ap (λ m. lines_from x (24576 - m) m) (sym at)

row_skip : (x : Execution) (k : ℕ) → k < 24576 → Bare x k → lines_from x (24576 - k) k ≡ lines_from x (24576 - (k + 64)) (k + 64)
row_skip x k h bare = from_skip x 64 k bare.none (omega (arith, bare.begins))

pub ahead_bare : (s : TieNumbers) → s.number < 24576 → Bare (execution s.case.now) s.number → lines_ahead s ≡ lines_ahead (record { case = s.case; number = s.number + 64 })
unfolding lines_ahead
ahead_bare s h bare = row_skip (execution s.case.now) s.number h bare

pub ahead_next : (s : TieNumbers) → s.number < 24576 → lines_ahead s ≡ tie_lines (execution s.case.now) s.number ++ lines_ahead (record { case = s.case; number = s.number + 1 })
unfolding lines_ahead
ahead_next s h = from_next (execution s.case.now) s.number h

pub ahead_end : (s : TieNumbers) → 24576 ≤ s.number → lines_ahead s ≡ []
unfolding lines_ahead
ahead_end s h = from_end (execution s.case.now) s.number h

-- the numbers of a walk to its end have as many lines as were ahead
pub walked : (x : Execution) (s t u : TieNumbers) (ks : List ℕ) (n : ℕ) → execution s.case.now ≡ x → Yields GivesNumber s ks t → GivesNumber t None u
    → fold (λ m k. m + length (tie_lines x k)) n ks ≡ n + length (lines_ahead s)
walked x s t u [] n same gave end = grind (arith, nat_tests)
walked x s t u (k ∷ ks) n same (j, step, rest) end =
    walked x j t u ks (n + length (tie_lines x k)) (ap execution step.1 ∙ same) rest end
    ∙ grind (arith, nat_tests, length-append)

pub all_walked : (x : Execution) (s t u : TieNumbers) (ks : List ℕ) → execution s.case.now ≡ x → Yields GivesNumber s ks t → GivesNumber t None u
    → fold (λ m k. m + length (tie_lines x k)) 0 ks ≡ length (lines_ahead s)
all_walked x s t u ks same gave end = grind (arith, walked x s t u ks 0 same gave end)

-- a line is one more, and none is none more
pub one_more : (n : ℕ) (o : Option Line) (ls : List Line) → listed o ≡ ls → n + length ls ≡ n + option_len o
one_more n None ls e = grind (arith, nat_tests)
one_more n (Some l) ls e = grind (arith, nat_tests)

-- an empty row out of an event
pub bare_row : (x : Execution) (k : ℕ) (r : Relation) → k % 64 ≡ 0 → Some r ≡ relation_of (k / 4096 + 1) → ((b : ℕ) → x.ties r (k / 64 % 64) b ≡ false) → Bare x k
bare_row x k r begins known empty = record {
  begins = begins;
  none = λ j h.
      let relation : (k + j) / 4096 ≡ k / 4096 = omega arith in
      let first : (k + j) / 64 % 64 ≡ k / 64 % 64 = omega arith in
      let there : x.ties r ((k + j) / 64 % 64) ((k + j) % 64) ≡ false = ap (λ a. x.ties r a ((k + j) % 64)) first ∙ empty ((k + j) % 64) in
      sym (line_by x (k + j) (Some r) (known ∙ ap (λ q. relation_of (q + 1)) (sym relation)))
      ∙ ap (λ (t : Bool). cond t (Tie r ((k + j) / 64 % 64) ((k + j) % 64) ∷ []) [])
      (and_right (ltb ((k + j) / 64 % 64) (count x)) _ (and_right (ltb ((k + j) % 64) (count x)) _ there));
}

-- ---- the whole text

pub text_parts : (x : Execution) (n m : ℕ) → n ≡ count x → m ≡ length (ties_in x)
    → ((line (Events n) ++ flat_map line (flat_map event_lines x.events)) ++ line (Ties m)) ++ flat_map line (ties_in x) ≡ text_of x
unfolding text_of
text_parts x n m events ties = grind (arith, nat_tests, append_assoc, joined_append)
