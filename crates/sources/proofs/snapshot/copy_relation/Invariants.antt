use Rattle.std.proofs.Common.{◌≡◌, ℕ, ◌<◌, get_or}
use Rattle.rows.specs.Row.{bit}
use Rattle.sources.specs.Source.{targets}
use Rattle.sources.proofs.snapshot.copy_relation.Given as goal

-- the rows so far are the source's
abbrev pub invariant-loop-a : goal.invariant-loop-a
invariant-loop-a g l = (x : ℕ) → x < l.a → bit (get_or l.word-items x 0) ≡ targets (g.S.CaseSource.meaning l.source) l.number x
