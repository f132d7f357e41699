-- Read-side critical sections.
use Rattle.std.specs.Prelude.{◌≡◌, ℕ, Bool, true, not, ◌&&◌, ◌↔◌, ◌==◌, nat_lt}
use Rattle.rows.specs.Row.{any}
use Rattle.relations.specs.Algebra.{Rel}
use Rattle.executions.specs.Events.{in_program}
use Rattle.executions.specs.Execution.{Execution, event_at}
use Rattle.wellformed.specs.Events.{unlocks, depth, outermost, Section}

-- in thread t no lock is open before some event between l and u
unfoldable pub gap : Execution → ℕ → ℕ → ℕ → Bool
gap x t l u = any u (λ i. nat_lt l i && depth x t i == 0)

-- the outermost lock l of thread t is closed by the unlock u: u closes the only open lock, and one stays open from l to u
unfoldable pub closes : Execution → ℕ → ℕ → ℕ → Bool
closes x t l u = outermost x t l && ((unlocks x t u && depth x t u == 1) && (nat_lt l u && not (gap x t l u)))

-- crit: an outermost lock with the unlock that closes it. Inner locks and unlocks stand in no pair.
unfoldable pub crit : Execution → Rel
crit x l u = in_program (event_at x l) && closes x (event_at x l).thread l u

-- the pairs are the sections of the program's threads, by the words of a section
abbrev pub HasSections : Execution → Rel → Type 0
HasSections x r = (l u : ℕ) → (r l u ≡ true) ↔ ((in_program (event_at x l) ≡ true) × Section x (event_at x l).thread l u)
