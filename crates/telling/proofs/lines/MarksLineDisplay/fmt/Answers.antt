use Rattle.std.proofs.Common.{rules, sym}
use Rattle.std.proofs.Output.{has_written_of_eq}
use Rattle.telling.specs.Lines.{marks_line}
use Rattle.telling.proofs.Turns.{no_marks}
use Rattle.telling.proofs.lines.MarksLineDisplay.fmt.Goals as goal

pub returns-in-Rcu-clause-writes : goal.returns-in-Rcu-clause-writes
unfolding marks_line
returns-in-Rcu-clause-writes g c p ok = rw c.in-Rcu.is (search rules)

pub returns-in_default : goal.returns-in_default
returns-in_default g c =
    record { writes = λ p ok. has_written_of_eq _ _ _ _ _ (sym (no_marks _ _ _ c.in_default.not-Rcu)) (search rules); styled = tt }
