-- What a copy of a case holds.
use Rattle.std.specs.Prelude.{◌≡◌, ℕ, ◌+◌, ◌*◌, ◌<◌, ◌≤◌, ◌&&◌, List, take, Some, None, Option, nat_lt, slice_index}
use Rattle.rows.specs.Row.{bit}
use Rattle.executions.specs.Execution.{Execution, count}
use Rattle.executions.specs.Ties.{relation_number}
use Rattle.executions.specs.Words.{word_at}
use Rattle.sources.specs.declared.kinds.Snapshot.{Snapshot}
use Rattle.sources.specs.Source.{targets}

-- the execution that is held: the records below the count, and their words
abbrev pub execution : Snapshot → Execution
execution s = record {
  events = take s.count s.events;
  ties = λ r a b. nat_lt a s.count && bit (slice_index s.words (word_at (relation_number r) a)) b;
}

-- a copy of just that execution, or none where it has more than 64 events
abbrev pub Copies : Execution → Option Snapshot → Type 0
Copies x None = 64 < count x
Copies x (Some s) = (count x ≤ 64) × (execution s ≡ x)

-- the words have the rows of the first k relations for the events below n
abbrev pub RowsCopied : Execution → ℕ → ℕ → List ℕ → Type 0
RowsCopied x k n ws = (m a : ℕ) → m < k → a < n → bit (slice_index ws (64 * m + a)) ≡ targets x (m + 1) a
