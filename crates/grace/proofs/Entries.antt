-- The fence pairs of a table, entry by entry: by section and period, and by the place of the entry in the order of the pairs.
use Rattle.std.proofs.Common.{◌≡◌, ℕ, suc, ◌+◌, ◌*◌, ◌/◌, ◌%◌, ◌<◌, true, false, ◌⊎◌, sym, ◌∙◌, inl, inr, ⊎_elim, true≢false, arith}
use Rattle.std.proofs.lemmas.Bool.{and_from, and_parts, cases_Bool}
use Rattle.std.proofs.lemmas.Bool.Decides.{nat_tests}
use Rattle.rows.proofs.Any.{any_some, any_from}
use Rattle.relations.specs.Algebra.{union}
use Rattle.grace.specs.Scene.{Scene, Sound}
use Rattle.grace.specs.Law.{Table, pair, before_unlock, section_first, period_first, entry, pairs}
use Rattle.grace.specs.First.{sooner, decided, trial}
use Rattle.grace.proofs.Closure.{On, union_cases, union_left, union_right}
use Rattle.grace.proofs.Trips.{Links}
use Rattle.grace.proofs.Grounds.{Fenced}
use Rattle.grace.proofs.Rules.{ground, period_known, lock_known}

module _ (x : Scene) (sound : Sound x) where
  -- ---- pairs of a section and a period

  pub pair_small : (l s : ℕ) → On (pair x) l s → (l < 64) × (s < 64)
  unfolding pair
  pair_small l s e = grind (arith, nat_tests, any_some, lock_known, period_known)

  pub pair_period : (l s : ℕ) → On (pair x) l s → x.period s ≡ true
  unfolding pair
  pair_period l s e = grind (arith, nat_tests)

  pair_from : (l s a : ℕ) → before_unlock x l a ≡ true → x.period s ≡ true → On (pair x) l s
  unfolding pair before_unlock
  pair_from l s a e p =
      let u = any_some 64 _ e in
      and_from _ _
      (any_from 64 u.0 _ u.1 (and_parts _ _ u.2).1) p

  -- ---- an entry

  pub section_parts : (l s a b : ℕ) → On (section_first x l s) a b → (ground x).section_in l a × (ground x).period_out s b
  unfolding section_first
  section_parts l s a b e = grind (arith, nat_tests)

  pub section_from : (l s a b : ℕ) → (ground x).section_in l a → (ground x).period_out s b → On (section_first x l s) a b
  unfolding section_first
  section_from l s a b e k = grind (arith, nat_tests)

  pub period_parts : (l s a b : ℕ) → On (period_first x l s) a b → On x.po a s × (ground x).section_out l b
  unfolding period_first
  period_parts l s a b e = and_parts _ _ e

  period_from : (l s a b : ℕ) → On x.po a s → (ground x).section_out l b → On (period_first x l s) a b
  unfolding period_first
  period_from l s a b e k = and_from _ _ e k

  -- what an entry says depends on the table only there
  pub entry_same : (F H : Table) (l s a b : ℕ) → F l s ≡ H l s → On (entry x F l s) a b → On (entry x H l s) a b
  unfolding entry
  entry_same F H l s a b e k = rw e at k

  pub entry_section : (F : Table) (l s a b : ℕ) → F l s ≡ true → On (entry x F l s) a b → On (section_first x l s) a b
  unfolding entry
  entry_section F l s a b e k = rw e at k

  pub entry_period : (F : Table) (l s a b : ℕ) → F l s ≡ false → On (entry x F l s) a b → On (period_first x l s) a b
  unfolding entry
  entry_period F l s a b e k = rw e at k

  pub section_entry : (F : Table) (l s a b : ℕ) → F l s ≡ true → On (section_first x l s) a b → On (entry x F l s) a b
  unfolding entry
  section_entry F l s a b e k = rw e k

  pub period_entry : (F : Table) (l s a b : ℕ) → F l s ≡ false → On (period_first x l s) a b → On (entry x F l s) a b
  unfolding entry
  period_entry F l s a b e k = rw e k

  -- ---- the pairs of a table, and those decided before an entry

  pub pairs_some : (F : Table) (a b : ℕ) → On (pairs x F) a b → (l : ℕ) × (s : ℕ) × On (pair x) l s × On (entry x F l s) a b
  unfolding pairs
  pairs_some F a b e = grind (arith, nat_tests, any_some)

  pub some_pairs : (F : Table) (l s a b : ℕ) → On (pair x) l s → On (entry x F l s) a b → On (pairs x F) a b
  unfolding pairs
  some_pairs F l s a b e k =
      let m = pair_small l s e in
      any_from 64 l _ m.0
      (any_from 64 s _ m.1 (and_from _ _ e k))

  decided_some : (F : Table) (l s a b : ℕ) → On (decided x F l s) a b
      → (k : ℕ) × (t : ℕ) × (sooner k t l s ≡ true) × On (pair x) k t × On (entry x F k t) a b
  unfolding decided
  decided_some F l s a b e = grind (arith, nat_tests, any_some)

  some_decided : (F : Table) (l s k t a b : ℕ) → sooner k t l s ≡ true → On (pair x) k t → On (entry x F k t) a b → On (decided x F l s) a b
  unfolding decided
  some_decided F l s k t a b o e h =
      let m = pair_small k t e in
      any_from 64 k _ m.0
      (any_from 64 t _ m.1
      (and_from _ _ o (and_from _ _ e h)))

  -- ---- the place of a pair in their order: 64 l + s

  pub sooner_place : (k t l s : ℕ) → t < 64 → sooner k t l s ≡ true → k * 64 + t < l * 64 + s
  unfolding sooner
  sooner_place k t l s small e = grind (arith, nat_tests)

  place_sooner : (k t l s : ℕ) → s < 64 → k * 64 + t < l * 64 + s → sooner k t l s ≡ true
  unfolding sooner
  place_sooner k t l s small h = grind (arith, nat_tests)

  -- the fence pairs of the entries of F whose place is below i
  abbrev pub Upto : Table → ℕ → Links
  Upto F i a b = (l : ℕ) × (s : ℕ) × (l * 64 + s < i) × On (pair x) l s × On (entry x F l s) a b

  -- the strong fences with them
  abbrev pub Fences : Table → ℕ → Links
  Fences F i a b = On x.strong a b ⊎ Upto F i a b

  pub no_fences : (F : Table) (a b : ℕ) → Fences F 0 a b → On x.strong a b
  no_fences F a b (inl e) = e
  no_fences F a b (inr e) = let l = e.2 in absurd (omega arith)

  pub all_fences : (F : Table) (a b : ℕ) → On (union x.strong (pairs x F)) a b → Fences F 4096 a b
  all_fences F a b e = grind (arith, nat_tests, union_cases, pairs_some, pair_small)

  -- the entry in place i, where it is one
  abbrev Next : Table → ℕ → Links
  Next F i a b = On (pair x) (i / 64) (i % 64) × On (entry x F (i / 64) (i % 64)) a b

  -- one place more: a table that agrees up to there has its next entry besides
  fences_step : (F H : Table) (i : ℕ) → ((l s : ℕ) → s < 64 → l * 64 + s < i → H l s ≡ F l s) → (a b : ℕ)
      → Fences H (suc i) a b → Fences F i a b ⊎ Next H i a b
  fences_step F H i same a b (inl e) = inl (inl e)
  fences_step F H i same a b (inr e) = grind (arith, nat_tests, pair_small, entry_same)

  -- the next entry has the section first, or the period first
  module _ (F H : Table) (i : ℕ) (same : (l s : ℕ) → s < 64 → l * 64 + s < i → H l s ≡ F l s) where
    pub next_section : H (i / 64) (i % 64) ≡ true → (a b : ℕ) → Fences H (suc i) a b
        → Fenced (Fences F i) ((ground x).section_in (i / 64)) ((ground x).period_out (i % 64)) a b
    next_section t a b e =
        ⊎_elim inl (λ h. inr (section_parts (i / 64) (i % 64) a b (entry_section H (i / 64) (i % 64) a b t h.1))) (fences_step F H i same a b e)

    pub next_period : H (i / 64) (i % 64) ≡ false → (a b : ℕ) → Fences H (suc i) a b
        → Fenced (Fences F i) ((ground x).period_in (i % 64)) ((ground x).section_out (i / 64)) a b
    next_period t a b e =
        ⊎_elim inl
        (λ h. let k = period_parts (i / 64) (i % 64) a b (entry_period H (i / 64) (i % 64) a b t h.1) in
        inr ((k.0, pair_period (i / 64) (i % 64) h.0), k.1))
        (fences_step F H i same a b e)

    -- where place i has no section or no period
    pub next_none : pair x (i / 64) (i % 64) ≡ false → (a b : ℕ) → Fences H (suc i) a b → Fences F i a b
    next_none t a b e = ⊎_elim (λ h. h) (λ h. absurd (true≢false (sym h.0 ∙ t))) (fences_step F H i same a b e)

  -- the trial of section first at (l, s) is the fences up to there with the section first
  module _ (F : Table) (l s : ℕ) (small : s < 64) where
    pub trial_with : (a b : ℕ) → On (trial x F l s) a b → Fenced (Fences F (l * 64 + s)) ((ground x).section_in l) ((ground x).period_out s) a b
    unfolding trial
    trial_with a b e = grind (arith, nat_tests, decided_some, sooner_place, pair_small, union_cases, section_parts)

    pub with_trial : (a b : ℕ) → Fenced (Fences F (l * 64 + s)) ((ground x).section_in l) ((ground x).period_out s) a b → On (trial x F l s) a b
    unfolding trial
    with_trial a b (inl (inl e)) = grind (arith, nat_tests, union_left)
    with_trial a b (inl (inr e)) =
        union_left _ _
        (union_right _ _ (some_decided F l s e.0 e.1 a b (place_sooner e.0 e.1 l s small e.2) e.3 e.4))
    with_trial a b (inr e) = grind (arith, nat_tests, union_right, section_from)

  -- up to a place where F and H first differ, H having the section first there, H has all that the trial of F has
  pub trial_pairs : (F H : Table) (l s : ℕ) → ((k t : ℕ) → pair x k t ≡ true → sooner k t l s ≡ true → H k t ≡ F k t)
      → On (pair x) l s → H l s ≡ true → (a b : ℕ) → On (trial x F l s) a b → On (union x.strong (pairs x H)) a b
  unfolding trial
  trial_pairs F H l s same e t a b k =
      ⊎_elim
      (λ h. ⊎_elim (union_left x.strong (pairs x H))
      (λ g. let m = decided_some F l s a b g in
      union_right _ _
      (some_pairs H m.0 m.1 a b m.3 (entry_same F H m.0 m.1 a b (sym (same m.0 m.1 m.3 m.2)) m.4)))
      (union_cases _ _ h))
      (λ h. union_right _ _ (some_pairs H l s a b e (section_entry H l s a b t h)))
      (union_cases _ _ k)

  -- a whole table orders each section and each period
  pub table_orders : (F : Table) (l s a b c d : ℕ) → (ground x).period_in s a → (ground x).period_out s b → (ground x).section_in l c → (ground x).section_out l d
      → On (union x.strong (pairs x F)) c b ⊎ On (union x.strong (pairs x F)) a d
  table_orders F l s a b c d pi po si so =
      let e = pair_from l s c si pi.1 in
      ⊎_elim
      (λ t. inl (union_right _ _ (some_pairs F l s c b e (section_entry F l s c b t (section_from l s c b si po)))))
      (λ t. inr (union_right _ _ (some_pairs F l s a d e (period_entry F l s a d t (period_from l s a d pi.0 so)))))
      (cases_Bool (F l s))
