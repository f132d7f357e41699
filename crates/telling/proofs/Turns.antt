-- One more period, one more lock, and the rules without marks.
use Rattle.std.proofs.Common.{◌≡◌, ℕ, ◌+◌, List, [], ◌++◌, if◌then◌else◌, refl, add-one}
use Rattle.rows.specs.Row.{bit}
use Rattle.rulings.specs.declared.kinds.Rule.{Rule}
use Rattle.rulings.specs.declared.kinds.Rule.TheVariants.{Scpv, At, Hb, Pb, Rcu}
use Rattle.rulings.specs.declared.kinds.SheetRow.{SheetRow}
use Rattle.rulings.specs.declared.shapes.Shape.{Shape}
use Rattle.rulings.specs.Rulings.{row}
use Rattle.telling.specs.Lines.{marks_line, pair_line, section_lines, table_lines}

pub section_more : (l word periods n : ℕ) → section_lines l word periods n ++ (if bit periods n then pair_line l n (bit word n) else []) ≡ section_lines l word periods (n + 1)
unfolding section_lines
section_more l word periods n = rw (add-one n) refl

pub table_more : (s : Shape) (sheet : List SheetRow) (n : ℕ) → table_lines s sheet n ++ (if bit s.locks n then section_lines n (row sheet n).word s.periods 64 else []) ≡ table_lines s sheet (n + 1)
unfolding table_lines
table_more s sheet n = rw (add-one n) refl

pub no_marks : (k : Rule) (n : ℕ) (sheet : List SheetRow) → (k ≡ Rcu → ⊥) → marks_line k n sheet ≡ []
unfolding marks_line
no_marks Scpv n sheet other = refl
no_marks At n sheet other = refl
no_marks Hb n sheet other = refl
no_marks Pb n sheet other = refl
no_marks Rcu n sheet other = absurd (other refl)
