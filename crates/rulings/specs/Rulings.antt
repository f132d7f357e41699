-- What a ruling promises, sentence by sentence.
use Rattle.std.specs.Prelude.{◌≡◌, ℕ, ◌<◌, ◌≤◌, Bool, true, false, not, ◌&&◌, ◌↔◌, List, [], length, get_or, drop, find, Some, None, Ok, Err, MatchBool, Option, Result, nat_lt, slice_index_or}
use Rattle.rows.specs.Row.{bit}
use Rattle.relations.specs.Algebra.{union}
use Rattle.relations.specs.Chains.{Acyclic}
use Rattle.searches.specs.Places.{IsOrder}
use Rattle.grace.specs.Law.{Table, pair, enlarged}
use Rattle.grace.specs.First.{First}
use Rattle.executions.specs.declared.faults.Cause.TheVariants.{TooShort}
use Rattle.executions.specs.declared.faults.Fault.{Fault}
use Rattle.executions.specs.declared.faults.Layer.TheVariants.{Check}
use Rattle.executions.specs.Execution.{Execution}
use Rattle.wellformed.specs.Faults.{first_fault}
use Rattle.wellformed.specs.WellFormed.{WellFormed}
use Rattle.basis.specs.Basis.{Basis}
use Rattle.basis.specs.Meaning.{basis}
use Rattle.lkmm.specs.Model.{hb}
use Rattle.lkmm.specs.Rules.{per_place, scene}
use Rattle.rulings.specs.declared.kinds.Rule.{Rule}
use Rattle.rulings.specs.declared.kinds.Rule.TheVariants.{Scpv, At, Hb, Pb, Rcu}
use Rattle.rulings.specs.declared.kinds.Report.{Report}
use Rattle.rulings.specs.declared.kinds.Report.TheVariants.{Kept, Broken}
use Rattle.rulings.specs.declared.kinds.Reports.{Reports}
use Rattle.rulings.specs.declared.kinds.Verdict.{Verdict}
use Rattle.rulings.specs.declared.kinds.Verdict.TheVariants.{Allowed, Forbidden}
use Rattle.rulings.specs.declared.kinds.Ruling.{Ruling}
use Rattle.rulings.specs.declared.kinds.SheetRow.{SheetRow}
use Rattle.rulings.specs.Rules.{rules, Keeps, RoundOf}

-- ---- reports and the verdict

-- the report of each rule
abbrev pub report_of : Reports → Rule → Report
report_of r Scpv = r.scpv
report_of r At = r.at
report_of r Hb = r.hb
report_of r Pb = r.pb
report_of r Rcu = r.rcu

-- a report says whether P holds
abbrev pub Says : Report → Type 0 → Type 0
Says Kept P = P
Says Broken P = P → ⊥

-- each rule is reported broken exactly when it is
abbrev pub Reported : Basis → Reports → Type 0
Reported b r = (k : Rule) → Says (report_of r k) (Keeps b k)

-- whether a report says kept
abbrev pub kept : Report → Bool
kept Kept = true
kept Broken = false

-- the first broken rule: none where every rule is reported kept
abbrev pub first_broken : Reports → Option Rule
first_broken r = find (λ k. not (kept (report_of r k))) rules

-- allowed where no rule is broken, else forbidden by the first broken one, with the length of its round
abbrev pub verdict_of : Option Rule → ℕ → Verdict
verdict_of None n = Allowed
verdict_of (Some k) n = Forbidden (record { rule = k; length = n })

-- Pb and Rcu are both reported kept
abbrev pub both_kept : Reports → Bool
both_kept r = kept r.pb && kept r.rcu

-- ---- the sheet

abbrev pub blank : SheetRow
blank = record { event = 255; mark = 255; first = 255; second = 255; word = 0 }

-- row i of the sheet
abbrev pub row : List SheetRow → ℕ → SheetRow
row sheet i = slice_index_or sheet i blank

-- the table of the words: a section goes before the periods in the word of its lock
abbrev pub words : List SheetRow → Table
words sheet l s = nat_lt l 64 && (nat_lt s 64 && bit (row sheet l).word s)

-- the words are the first table that leaves enlarged pb without a cycle, and have no other bits
pub record FirstWords (b : Basis) (sheet : List SheetRow) : Type 0 where
  pub first : First (scene b) (words sheet)
  pub others : (l s : ℕ) → words sheet l s ≡ true → pair (scene b) l s ≡ true

-- the first 64 rows list a round with its marks and the places of two orders; 255 stands where a list has ended
pub record Lists (sheet : List SheetRow) (round marks first second : List ℕ) : Type 0 where
  pub events_are : (i : ℕ) → i < 64 → (row sheet i).event ≡ slice_index_or round i 255
  pub marks_are : (i : ℕ) → i < 64 → (row sheet i).mark ≡ slice_index_or marks i 255
  pub firsts_are : (i : ℕ) → i < 64 → (row sheet i).first ≡ slice_index_or first i 255
  pub seconds_are : (i : ℕ) → i < 64 → (row sheet i).second ≡ slice_index_or second i 255

-- of a forbidden case: a shortest round of the first broken rule, and no orders
pub record Forbids (b : Basis) (k : Rule) (round marks first second : List ℕ) : Type 0 where
  pub round_of : RoundOf b k round marks
  pub no_first : first ≡ []
  pub no_second : second ≡ []

-- of an allowed case no round, and two orders: the first rises along po-loc and com, the second along hb and pb enlarged by the table
pub record Allows (b : Basis) (table : Table) (round marks first second : List ℕ) : Type 0 where
  pub no_round : round ≡ []
  pub no_marks : marks ≡ []
  pub all_first : length first ≡ b.count
  pub all_second : length second ≡ b.count
  pub in_first : IsOrder (per_place b) b.count (λ a. get_or first a 255)
  pub in_second : IsOrder (union (hb b) (enlarged (scene b) table)) b.count (λ a. get_or second a 255)

-- what the sheet lists, by the first broken rule
abbrev pub Shows : Basis → Table → Option Rule → List ℕ → List ℕ → List ℕ → List ℕ → Type 0
Shows b table (Some k) = Forbids b k
Shows b table None = Allows b table

-- ---- the promise

-- What a ruling on a case and its sheet promise.
pub record Ruled (b : Basis) (sheet : List SheetRow) (r : Ruling) : Type 0 where
  -- each rule is reported broken exactly when it is
  pub reports : Reported b r.reports
  -- the round, its marks, and the places in two orders, as the sheet lists them
  pub round : List ℕ
  pub marks : List ℕ
  pub first : List ℕ
  pub second : List ℕ
  -- allowed exactly when every rule is reported kept; else forbidden by the first broken rule, with the length of its round
  pub verdict : r.verdict ≡ verdict_of (first_broken r.reports) (length round)
  pub listed : Lists sheet round marks first second
  pub shown : Shows b (words sheet) (first_broken r.reports) round marks first second
  -- Pb and Rcu are both reported kept exactly when some precedence table leaves enlarged pb without a cycle
  pub law : both_kept r.reports ≡ true ↔ ((F : Table) × Acyclic (enlarged (scene b) F))
  -- the words are then the first such table, else 0
  pub precedence : MatchBool (both_kept r.reports) (FirstWords b sheet) ((i : ℕ) → i < 64 → (row sheet i).word ≡ 0)

-- a sheet of fewer than 64 rows is refused
abbrev pub too_short : Fault
too_short = record { cause = TooShort; layer = Check; place = 0 }

-- What judge answers of an execution, from the sheet before it to the sheet after it: short sheets are refused, then cases that are not
-- well formed, with their first fault, and the sheet stays as it was. Otherwise the ruling; rows past the 64th stay.
abbrev pub Judged : Execution → List SheetRow → List SheetRow → Result Ruling Fault → Type 0
Judged x sheet sheet' (Err f) = (sheet' ≡ sheet) × MatchBool (nat_lt (length sheet) 64) (f ≡ too_short) ((first_fault x ≡ Some f) × (WellFormed x → ⊥))
Judged x sheet sheet' (Ok r) = (64 ≤ length sheet) × WellFormed x × Ruled (basis x) sheet' r × (drop 64 sheet' ≡ drop 64 sheet)
