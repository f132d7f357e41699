-- What reading and writing promise, in the words of the format.
use Rattle.std.specs.Prelude.{◌≡◌, ℕ, false, List, Ok, Result}
use Rattle.executions.specs.declared.events.Event.{Event}
use Rattle.executions.specs.Execution.{Execution}
use Rattle.tables.specs.declared.kinds.OpenCase.{OpenCase}
use Rattle.tables.specs.Plain.{Plain, Open, short}
use Rattle.tables.specs.Tables.{tables, plain_of, Represents}
use Rattle.casetext.specs.declared.kinds.TextFault.{TextFault}
use Rattle.casetext.specs.Text.{text_of}
use Rattle.casetext.specs.Entered.{Case}

-- the execution that an open case has in its tables
abbrev pub held : OpenCase → List Event → List ℕ → Execution
held c rs ws = (plain_of (tables c rs ws)).execution

-- the open case of an execution
abbrev pub opened : Execution → Plain
opened x = record { execution = x; mark = Open }

-- Just the texts of cases are read, each as its own case.
pub record Spells (bs : List ℕ) (records words : ℕ) (rs : List Event) (ws : List ℕ) (answer : Result OpenCase TextFault) : Type 0 where
  -- what is accepted is the text of the case that the tables then hold
  pub only_texts : (c : OpenCase) → answer ≡ Ok c → Case (held c rs ws) × (bs ≡ text_of (held c rs ws))
  -- the text of a case is accepted, and the tables then represent just that case
  pub all_texts : (x : Execution) → Case x → bs ≡ text_of x → short records words ≡ false → (c : OpenCase) × (answer ≡ Ok c) × Represents (tables c rs ws) (opened x)
