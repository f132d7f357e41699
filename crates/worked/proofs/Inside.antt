-- What the model is given of an execution has events at both ends.
use Rattle.std.proofs.Common.{arith}
use Rattle.std.proofs.lemmas.Bool.Decides.{nat_tests}
use Rattle.std.proofs.Common.{◌≡◌, ℕ, ◌<◌, true}
use Rattle.rows.proofs.Any.{any_some}
use Rattle.relations.specs.Algebra.{opt}
use Rattle.relations.specs.Table.{On}
use Rattle.relations.proofs.Ranges.{on_either, on_identity, on_less, on_product}
use Rattle.executions.specs.Execution.{Execution, count}
use Rattle.basis.specs.Basis.{ext, id}
use Rattle.basis.specs.Meaning.{basis}
use Rattle.basis.specs.Sections.{crit, closes}
use Rattle.basis.proofs.Members.{program_inside, fellow_inside, on_po}
use Rattle.grace.specs.Law.{before_unlock, from_on, section_first, period_first}
use Rattle.lkmm.specs.Rules.{scene}

module _ (x : Execution) where
  pub on_crit : On (count x) (crit x)
  unfolding crit closes
  on_crit l u h = grind (arith, nat_tests, program_inside, fellow_inside)

  pub on_ext : On (count x) (ext (basis x))
  unfolding ext basis
  on_ext = on_less (count x) _ _ (on_product (count x) (λ _. true) (λ _. true))

  pub on_id : On (count x) (id (basis x))
  unfolding id basis
  on_id = on_identity (count x)

  -- ---- the pairs of a section and a period

  from_on_inside : (e b : ℕ) → from_on (scene (basis x)) e b ≡ true → (e < count x) × (b < count x)
  unfolding from_on scene basis opt
  from_on_inside = on_either (count x) _ _ (on_po x) (on_identity (count x))

  pub on_section_first : (l s : ℕ) → On (count x) (section_first (scene (basis x)) l s)
  unfolding section_first before_unlock scene basis
  on_section_first l s a b h = grind (arith, nat_tests, any_some, on_po, from_on_inside)

  pub on_period_first : (l s : ℕ) → On (count x) (period_first (scene (basis x)) l s)
  unfolding period_first scene basis
  on_period_first l s a b h = grind (arith, nat_tests, on_po, from_on_inside)
