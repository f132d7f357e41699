-- Relations on a few events, tabulated: a row of tests for each event.
use Rattle.std.proofs.lemmas.Bool.Decides.{nat_tests}
use Rattle.std.proofs.Common.{◌≡◌, ℕ, zero, suc, ◌+◌, ◌<◌, ◌≤◌, Bool, false, ◌⊎◌, List, [], ◌∷◌, get_or, sym, refl, ap, ◌∙◌, inl, inr, add-zero, arith}
use Rattle.relations.specs.Algebra.{Rel}
use Rattle.relations.specs.Table.{On}
use Rattle.relations.proofs.Tables.{both_same}

-- ---- the values of a function

-- f i, f (i + 1) and so on, k of them
unfoldable pub values : {A : Type 0} → ℕ → ℕ → (ℕ → A) → List A
values zero i f = []
values (suc k) i f = f i ∷ values k (suc i) f

module _ {A : Type 0} (f : ℕ → A) (d : A) where
  value_in : (k i j : ℕ) → j < k → get_or (values k i f) j d ≡ f (i + j)
  unfolding values
  value_in zero i j h = absurd (omega arith)
  value_in (suc k) i zero h = ap f (sym (add-zero i))
  value_in (suc k) i (suc j) h = value_in k (suc i) j (omega arith) ∙ ap f (let e : suc i + j ≡ i + suc j = omega arith in e)

  value_past : (k i j : ℕ) → k ≤ j → get_or (values k i f) j d ≡ d
  unfolding values
  value_past zero i j h = refl
  value_past (suc k) i zero h = absurd (omega arith)
  value_past (suc k) i (suc j) h = value_past k (suc i) j (omega arith)

-- ---- the rows of a relation

abbrev pub Rows : Type 0
Rows = List (List Bool)

-- r between the first n events
unfoldable pub tab : ℕ → Rel → Rows
tab n r = values n 0 (λ a. values n 0 (r a))

-- the relation of some rows
unfoldable pub look : Rows → Rel
look t a b = get_or (get_or t a []) b false

module _ (n : ℕ) (r : Rel) where
  tab_in : (a b : ℕ) → a < n → b < n → look (tab n r) a b ≡ r a b
  unfolding look tab
  tab_in a b h k = grind (arith, nat_tests, value_in)

  tab_past : (a b : ℕ) → (n ≤ a) ⊎ (n ≤ b) → look (tab n r) a b ≡ false
  unfolding look tab
  tab_past a b (inl h) = grind (arith, nat_tests, value_past)
  tab_past a b (inr k) = grind (arith, nat_tests, value_in, value_past)

  -- a relation on the first n events is that of its rows
  pub tab_is : On n r → look (tab n r) ≡ r
  tab_is on = grind (arith, nat_tests, both_same, tab_in, tab_past)
