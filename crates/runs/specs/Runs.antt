-- Runs: what each call of a list does to the plain case beside the tables, and what it answers.
use Rattle.std.specs.Prelude.{◌≡◌, ℕ, List, [], ◌∷◌, ◌++◌, Ok, Err, MatchBool, Result, nat_lt}
use Rattle.executions.specs.declared.faults.Fault.{Fault}
use Rattle.sources.specs.Source.{bounded}
use Rattle.tables.specs.Plain.{Plain, Mark, Open, Sealed, blank, enter_plain, tie_plain, untie_plain, seal_plain, reopen_plain}
use Rattle.basis.specs.Meaning.{basis}
use Rattle.rulings.specs.Rulings.{Ruled as RuledBy, too_short}
use Rattle.runs.specs.declared.kinds.Call.{Call}
use Rattle.runs.specs.declared.kinds.Call.TheVariants.{Enter, Tie, Untie, Seal, Reopen, Judge}
use Rattle.runs.specs.declared.kinds.Answer.{Answer}
use Rattle.runs.specs.declared.kinds.Answer.TheVariants.{Entered, Done, Refused, Ruled, OtherState}

-- ---- answers

abbrev pub entered_answer : Result ℕ Fault → Answer
entered_answer (Ok n) = Entered n
entered_answer (Err f) = Refused f

abbrev pub done_answer : Result (Unit {0}) Fault → Answer
done_answer (Ok _) = Done
done_answer (Err f) = Refused f

-- the answer is a ruling on the plain case, with a sheet that shows why
abbrev pub RuledOn : Plain → Answer → Type 0
RuledOn p (Entered n) = ⊥
RuledOn p Done = ⊥
RuledOn p (Refused f) = ⊥
RuledOn p (Ruled r sheet) = RuledBy (basis (bounded p.execution)) sheet r
RuledOn p OtherState = ⊥

-- ---- one call

-- a call that the state does not take: nothing changes
abbrev pub Other : Plain → Answer → Plain → Type 0
Other p a q = (a ≡ OtherState) × (q ≡ p)

-- on an open case, with tables of so many records and words
abbrev pub OpenStep : ℕ → ℕ → Plain → Call → Answer → Plain → Type 0
OpenStep records words p (Enter e) a q = (q ≡ (enter_plain records words e p).0) × (a ≡ entered_answer (enter_plain records words e p).1)
OpenStep records words p (Tie r x y) a q = (q ≡ (tie_plain records words r x y p).0) × (a ≡ done_answer (tie_plain records words r x y p).1)
OpenStep records words p (Untie r x y) a q = (q ≡ (untie_plain records words r x y p).0) × (a ≡ done_answer (untie_plain records words r x y p).1)
OpenStep records words p Seal a q = (q ≡ (seal_plain records words p).0) × (a ≡ done_answer (seal_plain records words p).1)
OpenStep records words p Reopen a q = Other p a q
OpenStep records words p (Judge rows) a q = Other p a q

-- on a sealed case: judge rules on the plain case, refuses nothing but a short sheet, and changes nothing
abbrev pub SealedStep : Plain → Call → Answer → Plain → Type 0
SealedStep p (Enter e) a q = Other p a q
SealedStep p (Tie r x y) a q = Other p a q
SealedStep p (Untie r x y) a q = Other p a q
SealedStep p Seal a q = Other p a q
SealedStep p Reopen a q = (q ≡ reopen_plain p) × (a ≡ Done)
SealedStep p (Judge rows) a q = (q ≡ p) × MatchBool (nat_lt rows 64) (a ≡ Refused too_short) (RuledOn p a)

abbrev pub StepIn : Mark → ℕ → ℕ → Plain → Call → Answer → Plain → Type 0
StepIn Open records words p c a q = OpenStep records words p c a q
StepIn Sealed records words p c a q = SealedStep p c a q

abbrev pub Step : ℕ → ℕ → Plain → Call → Answer → Plain → Type 0
Step records words p c a q = StepIn p.mark records words p c a q

-- ---- a run

-- A run of calls from the blank open case, with what they answered: none, or a run and one call more.
pub data Run (records words : ℕ) : List Call → List Answer → Plain → Type 0 where
  opened : Run records words [] [] blank
  more : {cs : List Call} {gs : List Answer} {p q : Plain} (c : Call) (a : Answer) → Run records words cs gs p → Step records words p c a q → Run records words (cs ++ c ∷ []) (gs ++ a ∷ []) q
