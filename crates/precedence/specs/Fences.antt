-- The fence pairs of a table, row by row: a row has the periods before which the section of a lock goes.
use Rattle.std.specs.Prelude.{ℕ, cond, not, ◌&&◌}
use Rattle.relations.specs.Algebra.{Set, Rel, any}
use Rattle.grace.specs.Scene.{Scene}
use Rattle.grace.specs.Law.{Table, pair, section_first, period_first}

-- section first, for lock l and each period of the row
unfoldable pub section_row : Scene → ℕ → Set → Rel
section_row x l row a b = any 64 (λ s. (x.period s && row s) && section_first x l s a b)

-- period first, for lock l and each other period
unfoldable pub period_row : Scene → ℕ → Set → Rel
period_row x l row a b = any 64 (λ s. (x.period s && not (row s)) && period_first x l s a b)

-- the fence pairs of the row; none where l is no lock
unfoldable pub lock_pairs : Scene → ℕ → Set → Rel
lock_pairs x l row a b = any 64 (λ s. pair x l s && cond (row s) (section_first x l s) (period_first x l s) a b)

-- the fence pairs of the rows below n
unfoldable pub pairs_below : Scene → Table → ℕ → Rel
pairs_below x F n a b = any n (λ l. lock_pairs x l (F l) a b)
