-- The lines of the ties that are still to come.
use Rattle.std.specs.Prelude.{◌≡◌, ℕ, zero, suc, ◌+◌, ◌-◌, ◌<◌, List, [], ◌++◌, Option, MatchOption}
use Rattle.sources.specs.Snapshot.{execution}
use Rattle.executions.specs.Execution.{Execution}
use Rattle.caselines.specs.declared.lines.Line.{Line}
use Rattle.casetext.specs.Text.{tie_lines}
use Rattle.casewriter.specs.declared.ties.TieNumbers.{TieNumbers}
use Rattle.casewriter.specs.declared.ties.TieLines.{TieLines}

-- the lines of n ties from a number on
unfoldable pub lines_from : Execution → ℕ → ℕ → List Line
lines_from x zero k = []
lines_from x (suc n) k = tie_lines x k ++ lines_from x n (k + 1)

-- those of all ties from the number of a walk on
unfoldable pub lines_ahead : TieNumbers → List Line
lines_ahead s = lines_from (execution s.case.now) (24576 - s.number) s.number

-- the same of a walk of lines
abbrev pub lines_left : TieLines → List Line
lines_left t = lines_ahead t.numbers

-- A call gave a number, and the line of its tie, where there is one, comes before all that are left then; or it gave none, and no line is left.
abbrev pub GivesNumber : TieNumbers → Option ℕ → TieNumbers → Type 0
GivesNumber s r t = MatchOption r ((lines_ahead s ≡ []) × (lines_ahead t ≡ []))
    (λ k. (k < 24576) × (t.case.now ≡ s.case.now) × (lines_ahead s ≡ tie_lines (execution s.case.now) k ++ lines_ahead t))
