-- What the decision of Rcu tells of a scene. For proofs and the contracts of private functions; no public contract cites it.
use Rattle.std.specs.Prelude.{◌≡◌, ℕ, ◌<◌, true, cond, List, replicate, is_some, IfSome, Some, None, Decides, MatchBool, Option, slice_index}
use Rattle.relations.specs.Chains.{Acyclic}
use Rattle.relations.specs.Table.{table}
use Rattle.grace.specs.Scene.{Scene, pb}
use Rattle.grace.specs.Law.{Rcu, pair}
use Rattle.grace.specs.First.{First}
use Rattle.precedence.specs.declared.kinds.FirstTable.{FirstTable}
use Rattle.rulings.specs.declared.kinds.Reports.{Reports}
use Rattle.rulings.specs.Rulings.{both_kept}

-- a table exactly where Rcu is kept; where Pb is kept too it is the first; it has no bits but those of a section and a period
pub record Decided (x : Scene) (t : Option FirstTable) : Type 0 where
  pub rule : Decides (is_some t) (Rcu x x.strong)
  pub first : IfSome t (λ t. Acyclic (pb x x.strong) → First x (table t.rows))
  pub others : IfSome t (λ t. (l s : ℕ) → table t.rows l s ≡ true → pair x l s ≡ true)

-- the rows of the table where Pb and Rcu are both reported kept, else zeros
abbrev pub words_of : Reports → Option FirstTable → List ℕ
words_of r None = replicate 64 0
words_of r (Some t) = cond (both_kept r) t.rows (replicate 64 0)

-- the words that the sheet gets
abbrev pub Worded : Scene → Reports → List ℕ → Type 0
Worded x r ws = MatchBool (both_kept r) (First x (table ws) × ((l s : ℕ) → table ws l s ≡ true → pair x l s ≡ true)) ((i : ℕ) → i < 64 → slice_index ws i ≡ 0)
