use Rattle.std.proofs.Common.{◌≡◌, ℕ}
use Rattle.rows.specs.Row.{bit, any}
use Rattle.sources.specs.Snapshot.{execution}
use Rattle.wellformed.proofs.ties.all_targets.Given as goal

abbrev pub invariant-loop-a : goal.invariant-loop-a
invariant-loop-a l = (e : ℕ) → bit l.targets e ≡ any l.a (λ a. (execution l.case).ties l.relation a e)
