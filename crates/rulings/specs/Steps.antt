-- What the steps of judge leave, before they are put together.
-- For the contracts of private functions; no public contract cites it.
use Rattle.std.specs.Prelude.{◌≡◌, ℕ, List, length, Option, MatchOption}
use Rattle.relations.specs.Chains.{Acyclic}
use Rattle.relations.specs.Table.{table}
use Rattle.grace.specs.Scene.{Scene}
use Rattle.grace.specs.Law.{enlarged}
use Rattle.precedence.specs.declared.kinds.FirstTable.{FirstTable}
use Rattle.basis.specs.Basis.{Basis}
use Rattle.rulings.specs.declared.kinds.Breach.{Breach}
use Rattle.rulings.specs.declared.kinds.Rule.{Rule}
use Rattle.rulings.specs.declared.kinds.SheetRow.{SheetRow}
use Rattle.rulings.specs.Pages.{Listing}
use Rattle.rulings.specs.Rulings.{Forbids, Allows}

-- the breach of a rule, with its round on the sheet
pub record Breached (b : Basis) (k : Rule) (words : List ℕ) (sheet : List SheetRow) (r : Breach) : Type 0 where
  pub listing : Listing (Forbids b k) words sheet
  pub breach : r ≡ record { rule = k; length = length listing.round }

-- there is a table, and it leaves enlarged pb without a cycle
abbrev pub Orderable : Scene → Option FirstTable → Type 0
Orderable x t = MatchOption t ⊥ (λ t. Acyclic (enlarged x (table t.rows)))

-- the two orders of a case that keeps every rule, on the sheet
abbrev pub AllowedBy : Basis → Option FirstTable → List ℕ → List SheetRow → Type 0
AllowedBy b t words sheet = MatchOption t ⊥ (λ t. Listing (Allows b (table t.rows)) words sheet)
