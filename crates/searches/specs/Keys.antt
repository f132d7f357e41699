-- The keys that events are ordered by.
use Rattle.std.specs.Prelude.{ℕ, ◌+◌, ◌*◌, nat_lt}
use Rattle.rows.specs.Row.{count}
use Rattle.relations.specs.Algebra.{Rel}

-- the key of an event: how many events come before it, and then its own number
unfoldable pub key : Rel → ℕ → ℕ
key before a = count 64 (before a) * 64 + a

-- how many of the first n keys are below k
unfoldable pub rank : ℕ → (ℕ → ℕ) → ℕ → ℕ
rank n keys k = count n (λ b. nat_lt (keys b) k)
