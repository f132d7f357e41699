-- How 384 words of 64 bits hold the ties of 64 events: a word of targets for each relation and event.
use Rattle.std.specs.Prelude.{ℕ, ◌+◌, ◌-◌, ◌*◌, ◌&&◌, List, nat_lt, slice_index}
use Rattle.rows.specs.Row.{bit}
use Rattle.executions.specs.Execution.{Ties}
use Rattle.executions.specs.Ties.{relation_number}

-- the word that holds the targets of event a in the relation of that number
abbrev pub word_at : ℕ → ℕ → ℕ
word_at number a = 64 * (number - 1) + a

-- the ties that the words hold: bit b of the word of a
unfoldable pub ties_of : List ℕ → Ties
ties_of ws r a b = nat_lt a 64 && (nat_lt b 64 && bit (slice_index ws (word_at (relation_number r) a)) b)
