-- Verdicts and rules as the published table has them.
use Rattle.std.specs.Prelude.{◌≡◌, ℕ, List, Some, None, Ok, Err, codes, Option}
use Rattle.executions.specs.Execution.{Execution}
use Rattle.basis.specs.Meaning.{basis}
use Rattle.intake.specs.declared.kinds.Refusal.{Refusal}
use Rattle.intake.specs.Sealing.{sealed_text}
use Rattle.rulings.specs.declared.kinds.SheetRow.{SheetRow}
use Rattle.rulings.specs.Rulings.{Ruled}
use Rattle.rulings.specs.declared.kinds.Ruling.{Ruling}
use Rattle.rulings.specs.declared.kinds.Verdict.{Verdict}
use Rattle.rulings.specs.declared.kinds.Verdict.TheVariants.{Allowed, Forbidden}
use Rattle.published.specs.declared.kinds.Outcome.{Outcome}
use Rattle.published.specs.declared.kinds.Outcome.TheVariants.{Allow, Forbid}

-- a verdict in the words of the table
abbrev pub outcome_of : Verdict → Outcome
outcome_of Allowed = Allow
outcome_of (Forbidden b) = Forbid

-- the word of the table for an outcome
abbrev pub outcome_word : Outcome → List ℕ
outcome_word Allow = codes "Allow"
outcome_word Forbid = codes "Forbid"

-- a text is ruled on, and with this outcome
abbrev pub Agrees : Outcome → Option Ruling → Type 0
Agrees o (Some r) = outcome_of r.verdict ≡ o
Agrees o None = ⊥

-- a ruling on the case that a text is sealed as, with some sheet; none where the text is refused
abbrev pub TextRuling : List ℕ → Option Ruling → Type 0
TextRuling bs (Some r) = (x : Execution) × (sheet : List SheetRow) × (sealed_text bs ≡ Ok x) × Ruled (basis x) sheet r
TextRuling bs None = (f : Refusal) × (sealed_text bs ≡ Err f)
