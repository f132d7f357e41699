-- What judging a sealed case, or the case of a text, comes to.
use Rattle.std.specs.Prelude.{◌≡◌, ℕ, ◌≤◌, false, ◌||◌, List, length, drop, Some, Ok, Err, MatchBool, Result, nat_lt}
use Rattle.executions.specs.declared.events.Event.{Event}
use Rattle.executions.specs.declared.faults.Fault.{Fault}
use Rattle.executions.specs.Execution.{Execution}
use Rattle.sources.specs.Source.{bounded}
use Rattle.wellformed.specs.Faults.{first_fault}
use Rattle.wellformed.specs.WellFormed.{WellFormed}
use Rattle.tables.specs.declared.kinds.SealedCase.{SealedCase}
use Rattle.tables.specs.Plain.{short}
use Rattle.tables.specs.Tables.{held_execution}
use Rattle.basis.specs.Meaning.{basis}
use Rattle.rulings.specs.declared.kinds.SheetRow.{SheetRow}
use Rattle.rulings.specs.Rulings.{Ruled, too_short}
use Rattle.rulings.specs.Shapes.{Shaped}
use Rattle.intake.specs.declared.kinds.Refusal.{Refusal}
use Rattle.intake.specs.Sealing.{sealed_text}
use Rattle.telling.specs.declared.texts.Judgment.{Judgment}

-- the execution that the tables of a sealed case hold
abbrev pub held : SealedCase → List Event → List ℕ → Execution
held c rs ws = bounded (held_execution c.count rs ws)

-- A sealed case on its tables: short tables or a short sheet are refused, then tables that no longer hold a well-formed case; the sheet stays.
-- So on the tables as they were sealed only a short sheet is refused. Otherwise the ruling, with the sheet, and what there is to put in an order.
abbrev pub JudgedSealed : SealedCase → List Event → List ℕ → List SheetRow → List SheetRow → Result Judgment Fault → Type 0
JudgedSealed c rs ws sheet sheet' (Err f) =
    (sheet' ≡ sheet) × MatchBool (short (length rs) (length ws) || nat_lt (length sheet) 64) (f ≡ too_short) ((first_fault (held c rs ws) ≡ Some f) × (WellFormed (held c rs ws) → ⊥))
JudgedSealed c rs ws sheet sheet' (Ok j) =
    (short (length rs) (length ws) ≡ false) × (64 ≤ length sheet) × WellFormed (held c rs ws) × Ruled (basis (held c rs ws)) sheet' j.ruling × Shaped (held c rs ws) j.shape × (drop 64 sheet' ≡ drop 64 sheet)

-- A text: refused as reading and sealing refuse it, and the sheet stays; otherwise the ruling on the case that it is sealed as.
abbrev pub JudgedText : List ℕ → List SheetRow → List SheetRow → Result Judgment Refusal → Type 0
JudgedText bs sheet sheet' (Err f) = (sealed_text bs ≡ Err f) × (sheet' ≡ sheet)
JudgedText bs sheet sheet' (Ok j) = (x : Execution) × (sealed_text bs ≡ Ok x) × WellFormed x × Ruled (basis x) sheet' j.ruling × Shaped x j.shape
