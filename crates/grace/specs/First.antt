-- The first of the tables that leave enlarged pb without a cycle, and how to find it entry by entry.
use Rattle.std.specs.Prelude.{◌≡◌, ℕ, Bool, true, false, ◌&&◌, ◌||◌, ◌↔◌, ◌==◌, nat_lt}
use Rattle.relations.specs.Algebra.{Rel, union, any}
use Rattle.relations.specs.Chains.{Acyclic}
use Rattle.grace.specs.Scene.{Scene, Sound}
use Rattle.grace.specs.Law.{Kept, Table, pair, section_first, entry, enlarged}

-- Pairs are taken by lock, then by period: (k, t) is taken before (l, s).
unfoldable pub sooner : ℕ → ℕ → ℕ → ℕ → Bool
sooner k t l s = nat_lt k l || (k == l && nat_lt t s)

-- F comes before H: where they first differ, F has the section first.
pub record Precedes (x : Scene) (F H : Table) : Type 0 where
  pub lock : ℕ
  pub period : ℕ
  pub is_pair : pair x lock period ≡ true
  pub section_in_F : F lock period ≡ true
  pub period_in_H : H lock period ≡ false
  pub same_before : (k t : ℕ) → pair x k t ≡ true → sooner k t lock period ≡ true → F k t ≡ H k t

-- F is the first table that leaves enlarged pb without a cycle
pub record First (x : Scene) (F : Table) : Type 0 where
  pub obeys : Acyclic (enlarged x F)
  pub no_sooner : (H : Table) → Precedes x H F → Acyclic (enlarged x H) → ⊥

-- the fence pairs of the entries that F decides before (l, s)
unfoldable pub decided : Scene → Table → ℕ → ℕ → Rel
decided x F l s a b = any 64 (λ k. any 64 (λ t. sooner k t l s && (pair x k t && entry x F k t a b)))

-- the strong fences, the pairs decided before (l, s), and section first at (l, s)
unfoldable pub trial : Scene → Table → ℕ → ℕ → Rel
trial x F l s = union (union x.strong (decided x F l s)) (section_first x l s)

-- F decides entry by entry: the section goes first exactly where Pb and Rcu are still kept with that.
abbrev pub Stepwise : Scene → Table → Type 0
Stepwise x F = (l s : ℕ) → pair x l s ≡ true → F l s ≡ true ↔ Kept x (trial x F l s)

-- Where Pb and Rcu are kept, the table found entry by entry is the first.
abbrev pub FirstTableLaw : Type 0
FirstTableLaw = (x : Scene) → Sound x → Kept x x.strong → (F : Table) → Stepwise x F → First x F

-- There is no other: two tables that are both the first say the same of every section and period.
abbrev pub OnlyFirst : Type 0
OnlyFirst = (x : Scene) → Sound x → (F H : Table) → First x F → First x H → (l s : ℕ) → pair x l s ≡ true → F l s ≡ H l s
