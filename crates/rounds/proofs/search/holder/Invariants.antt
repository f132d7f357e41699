use Rattle.std.proofs.Common.{◌≡◌, ℕ, true}
use Rattle.rows.specs.Row.{bit}
use Rattle.precedence.specs.Rows.{cells}
use Rattle.rounds.proofs.search.holder.Given as goal

abbrev pub invariant-loop-c : goal.invariant-loop-c
invariant-loop-c l =
    ((b : ℕ) → bit l.c-iterator.rest b ≡ true → bit l.set b ≡ true)
    × ((b : ℕ) → bit l.set b ≡ true → cells l.row b ≡ l.value → bit l.c-iterator.rest b ≡ true)
