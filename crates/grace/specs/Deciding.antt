-- Rcu decided, and the first table read off, on one sheet of balances: links first, then the periods, the sections and the rows of the
-- table, each a relay.
use Rattle.std.specs.Prelude.{◌≡◌, ℕ, zero, suc, Bool, false, cond, not, ◌&&◌, ◌||◌, ◌↔◌}
use Rattle.relations.specs.Algebra.{Set, any}
use Rattle.relations.specs.Chains.{Acyclic}
use Rattle.grace.specs.Scene.{Scene, Sound, pb, link}
use Rattle.grace.specs.Law.{Rcu, Table, pair, before_unlock, from_on}
use Rattle.grace.specs.First.{First}
use Rattle.grace.specs.Sheet.{Sheet, relayed, turns}

-- the events po-before the period s; none if s is no period
unfoldable pub before_period : Scene → ℕ → Set
before_period x s a = x.po a s && x.period s

-- links alone
unfoldable pub link_sheet : Scene → Sheet
link_sheet x a b = cond (link x x.strong a b) 128 0

-- with the periods below k
unfoldable pub period_sheet : Scene → ℕ → Sheet
period_sheet x zero = link_sheet x
period_sheet x (suc s) = relayed (period_sheet x s) (before_period x s) (from_on x s) 1 0

-- with all periods, and the sections whose locks are below k
unfoldable pub section_sheet : Scene → ℕ → Sheet
section_sheet x zero = period_sheet x 64
section_sheet x (suc l) = relayed (section_sheet x l) (before_unlock x l) (from_on x l) 0 1

-- some period or section makes a round with those before it
unfoldable pub rounds : Scene → Bool
rounds x =
    any 64 (λ s. turns (period_sheet x s) (before_period x s) (from_on x s) 1 0)
    || any 64 (λ l. turns (section_sheet x l) (before_unlock x l) (from_on x l) 0 1)

-- the row of lock l, read off the sheet m: the periods from which no way leads back to the section
unfoldable pub row : Scene → Sheet → ℕ → Set
row x m l s = pair x l s && not (turns m (before_unlock x l) (from_on x s) 0 0)

-- the periods of that row, and all events after them
unfoldable pub behind : Scene → Sheet → ℕ → Set
behind x m l b = any 64 (λ s. row x m l s && from_on x s b)

-- with all periods and sections, and the rows of the locks below k
unfoldable pub row_sheet : Scene → ℕ → Sheet
row_sheet x zero = section_sheet x 64
row_sheet x (suc l) = relayed (row_sheet x l) (before_unlock x l) (behind x (row_sheet x l) l) 0 0

-- the table of these rows
unfoldable pub first_table : Scene → Table
first_table x l s = row x (row_sheet x l) l s

-- Where Pb is kept: Rcu is kept exactly when nothing makes a round on the sheet, and then the table read off it is the first.
abbrev pub DecidingLaw : Type 0
DecidingLaw = (x : Scene) → Sound x → Acyclic (pb x x.strong) → (rounds x ≡ false ↔ Rcu x x.strong) × (Rcu x x.strong → First x (first_table x))
