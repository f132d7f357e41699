-- The two rules on grace periods, Pb and Rcu, and the precedence law: both are kept exactly when readers and grace periods
-- can be put in an order, each section before or after each period, that creates no cycle.
use Rattle.std.specs.Prelude.{◌≡◌, ℕ, zero, suc, ◌+◌, ◌≤◌, Bool, true, cond, ◌&&◌, ◌↔◌}
use Rattle.relations.specs.Algebra.{Set, Rel, seq, union, opt, any}
use Rattle.relations.specs.Chains.{Acyclic}
use Rattle.grace.specs.Scene.{Scene, Sound, gp, rscs, pb, link}

-- ---- the rules

-- A walk from one event to another by period steps (gp, then a link) and section steps (rscs, then a link), with f for the
-- strong fences: `Walk x f p q a b` has p period steps and q section steps.
pub data Walk (x : Scene) (f : Rel) : ℕ → ℕ → ℕ → ℕ → Type 0 where
  here : {a : ℕ} → Walk x f zero zero a a
  by_period : {p q a b c : ℕ} → seq (gp x) (link x f) a b ≡ true → Walk x f p q b c → Walk x f (suc p) q a c
  by_section : {p q a b c : ℕ} → seq (rscs x) (link x f) a b ≡ true → Walk x f p q b c → Walk x f p (suc q) a c

-- Rcu: no walk of one or more steps, at least as many of them period steps as section steps, returns to its first event
abbrev pub Rcu : Scene → Rel → Type 0
Rcu x f = (p q a : ℕ) → Walk x f p q a a → 1 ≤ p + q → q ≤ p → ⊥

-- Pb (pb has no cycle) and Rcu are both kept, with f for the strong fences
abbrev pub Kept : Scene → Rel → Type 0
Kept x f = Acyclic (pb x f) × Rcu x f

-- ---- precedence tables

-- A section is named by its lock. For each lock l and period s a table says which goes first: true for the section.
abbrev pub Table : Type 0
Table = ℕ → ℕ → Bool

-- l is the lock of a section, and s is a grace period
unfoldable pub pair : Scene → Rel
pair x l s = any 64 (x.crit l) && x.period s

-- the events po-before the unlock of the section with lock l
unfoldable pub before_unlock : Scene → ℕ → Set
before_unlock x l a = any 64 (λ u. x.po a u && x.crit l u)

-- e itself and all events po-after it
unfoldable pub from_on : Scene → ℕ → Set
from_on x e b = opt x.count x.po e b

-- section first: what is before the unlock comes before the period and all after it
unfoldable pub section_first : Scene → ℕ → ℕ → Rel
section_first x l s a b = before_unlock x l a && from_on x s b

-- period first: what is before the period comes before the lock and all after it
unfoldable pub period_first : Scene → ℕ → ℕ → Rel
period_first x l s a b = x.po a s && from_on x l b

-- the fence pairs that the table F gives for lock l and period s
unfoldable pub entry : Scene → Table → ℕ → ℕ → Rel
entry x F l s = cond (F l s) (section_first x l s) (period_first x l s)

-- the fence pairs of the whole table
unfoldable pub pairs : Scene → Table → Rel
pairs x F a b = any 64 (λ l. any 64 (λ s. pair x l s && entry x F l s a b))

-- pb enlarged: the pairs of the table count as strong fences too
unfoldable pub enlarged : Scene → Table → Rel
enlarged x F = pb x (union x.strong (pairs x F))

-- The precedence law: Pb and Rcu are both kept exactly when some table leaves enlarged pb without a cycle.
abbrev pub PrecedenceLaw : Type 0
PrecedenceLaw = (x : Scene) → Sound x → Kept x x.strong ↔ ((F : Table) × Acyclic (enlarged x F))
