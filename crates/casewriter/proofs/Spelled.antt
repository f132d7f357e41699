-- The parts of a line in the order in which they are written.
use Rattle.std.proofs.lemmas.Bool.Decides.{nat_tests}
use Rattle.std.proofs.Common.{◌≡◌, ℕ, List, [], ◌∷◌, ◌++◌, decimal, refl, arith}
use Rattle.std.proofs.lemmas.List.{append_assoc, append-nil}
use Rattle.executions.specs.declared.sorts.Sort.{Sort}
use Rattle.executions.specs.declared.ties.Relation.{Relation}
use Rattle.executions.specs.Ties.{relation_name}
use Rattle.caselines.specs.declared.lines.Letter.{Letter}
use Rattle.caselines.specs.declared.lines.Letter.TheVariants.{Read, Write, Fence}
use Rattle.caselines.specs.declared.lines.Line.TheVariants.{Event, Tie}
use Rattle.caselines.specs.Lines.{letter, mark, letter_name, placed, spelled}
use Rattle.casetext.specs.Text.{line}
use Rattle.casewriter.specs.Laid.{place_field}

pub tie_parts : (r : Relation) (a b : ℕ) → ((relation_name r ++ (32 ∷ decimal a)) ++ (32 ∷ decimal b)) ++ 10 ∷ [] ≡ line (Tie r a b)
unfolding spelled
tie_parts r a b = grind (arith, nat_tests)

placed_parts : (l : Letter) (w : List ℕ) (n : ℕ) → w ++ place_field l n ≡ placed l w n
placed_parts Read w n = refl
placed_parts Write w n = refl
placed_parts Fence w n = append-nil w

pub event_parts : (s : Sort) (t n : ℕ) → ((((letter_name (letter s) ++ (32 ∷ decimal t)) ++ 32 ∷ []) ++ mark s) ++ place_field (letter s) n) ++ 10 ∷ [] ≡ line (Event s t n)
unfolding spelled
event_parts s t n = grind (arith, nat_tests, append_assoc, placed_parts)
