-- The limits on ties: the tests of the check against the words of the subject.
use Rattle.std.proofs.Common.{◌≡◌, ℕ, ◌<◌, true, false, ◌&&◌, ◌||◌, ltb, sym, refl, subst, inl, inr, ⊎_elim, arith}
use Rattle.std.proofs.lemmas.Bool.{both_ways, or_parts, or_cases, and_parts, and_from, lt-ltb, ltb-true, cases_order, false_from_ne_true}
use Rattle.rows.specs.Row.{any}
use Rattle.rows.proofs.Any.{any_from, any_some}
use Rattle.executions.specs.declared.ties.Relation.TheVariants.{Rf, Rmw}
use Rattle.executions.specs.Execution.{Execution}
use Rattle.wellformed.specs.Faults.{stands_before, one_too_many}
use Rattle.wellformed.specs.WellFormed.{Tied, Stands}

-- ---- reads-from

-- two rf ties into one read: the later one is one too many
pub rf_clash : (x : Execution) (a c b : ℕ) → a < c → Tied x Rf a b → one_too_many x Rf c b ≡ false → ⊥
rf_clash x a c b h t o = both_ways _ o (any_from c a (λ k. x.ties Rf k b) h t)

pub one_rf_from : (x : Execution) → ((a b : ℕ) → Tied x Rf a b → one_too_many x Rf a b ≡ false) → (a c b : ℕ) → Tied x Rf a b → Tied x Rf c b → a ≡ c
one_rf_from x fine a c b t u =
    ⊎_elim (λ e. e) (⊎_elim (λ h. absurd (rf_clash x a c b h t (fine c b u))) (λ h. absurd (rf_clash x c a b h u (fine a b t)))) (cases_order a c)

pub rf_fine : (x : Execution) → ((a c b : ℕ) → Tied x Rf a b → Tied x Rf c b → a ≡ c) → (a b : ℕ) → Tied x Rf a b → one_too_many x Rf a b ≡ false
rf_fine x one a b t = false_from_ne_true _ λ h. let c = any_some a (λ k. x.ties Rf k b) h in omega (arith, c.1, one c.0 a b c.2 t)

-- ---- read-modify-write

module _ (x : Execution) (inside : (a b : ℕ) → Tied x Rmw a b → b < 64) where
  -- of two rmw ties from different events that share one, the later one is one too many
  rmw_clash : (a b c d e : ℕ) → a < c → Tied x Rmw a b → Tied x Rmw c d → Stands e a b → Stands e c d → one_too_many x Rmw c d ≡ false → ⊥
  rmw_clash a b c d e h t u s v o =
      let parts = or_parts (stands_before x c c) (stands_before x c d || any d (x.ties Rmw c)) o in
      let rest = or_parts (stands_before x c d) (any d (x.ties Rmw c)) parts.1 in
      let at_c = or_parts (any c (λ k. x.ties Rmw k c)) (ltb c c && any 64 (x.ties Rmw c)) parts.0 in
      let at_d = or_parts (any c (λ k. x.ties Rmw k d)) (ltb d c && any 64 (x.ties Rmw d)) rest.0 in
      ⊎_elim
      (λ p. ⊎_elim (λ q. omega arith)
      (λ q. let d_is : d ≡ a = omega arith in
      both_ways _ at_d.1 (and_from _ _ (lt-ltb d c (omega arith)) (any_from 64 b (x.ties Rmw d) (inside a b t) (subst (λ (k : ℕ). x.ties Rmw k b ≡ true) (sym d_is) t)))) v)
      (λ p. ⊎_elim
      (λ q. let b_is : b ≡ c = omega arith in both_ways _ at_c.0 (any_from c a (λ k. x.ties Rmw k c) h (subst (λ (k : ℕ). x.ties Rmw a k ≡ true) b_is t)))
      (λ q. let b_is : b ≡ d = omega arith in both_ways _ at_d.0 (any_from c a (λ k. x.ties Rmw k d) h (subst (λ (k : ℕ). x.ties Rmw a k ≡ true) b_is t))) v)
      s

  -- of two rmw ties from one event the later one is one too many
  row_clash : (a b d : ℕ) → b < d → Tied x Rmw a b → one_too_many x Rmw a d ≡ false → ⊥
  row_clash a b d h t o =
      let parts = or_parts (stands_before x a a) (stands_before x a d || any d (x.ties Rmw a)) o in
      let rest = or_parts (stands_before x a d) (any d (x.ties Rmw a)) parts.1 in
      both_ways _ rest.1 (any_from d b (x.ties Rmw a) h t)

  same_row : ((a b : ℕ) → Tied x Rmw a b → one_too_many x Rmw a b ≡ false) → (a b d : ℕ) → Tied x Rmw a b → Tied x Rmw a d → b ≡ d
  same_row fine a b d t u =
      ⊎_elim (λ e. e) (⊎_elim (λ h. absurd (row_clash a b d h t (fine a d u))) (λ h. absurd (row_clash a d b h u (fine a b t)))) (cases_order b d)

  pub one_rmw_from : ((a b : ℕ) → Tied x Rmw a b → one_too_many x Rmw a b ≡ false)
      → (a b c d e : ℕ) → Tied x Rmw a b → Tied x Rmw c d → Stands e a b → Stands e c d → (a ≡ c) × (b ≡ d)
  one_rmw_from fine a b c d e t u s v =
      ⊎_elim (λ q. (q, same_row fine a b d t (subst (λ (k : ℕ). x.ties Rmw k d ≡ true) (sym q) u)))
      (⊎_elim (λ h. absurd (rmw_clash a b c d e h t u s v (fine c d u))) (λ h. absurd (rmw_clash c d a b e h u t v s (fine a b t))))
      (cases_order a c)

  pub rmw_fine : ((a b c d e : ℕ) → Tied x Rmw a b → Tied x Rmw c d → Stands e a b → Stands e c d → (a ≡ c) × (b ≡ d))
      → (a b : ℕ) → Tied x Rmw a b → one_too_many x Rmw a b ≡ false
  rmw_fine one a b t = false_from_ne_true _ λ h. ⊎_elim at_a (λ k. ⊎_elim at_b in_row (or_cases _ _ k)) (or_cases _ _ h)
    where
      at_a : stands_before x a a ≡ true → ⊥
      at_a h =
          ⊎_elim (λ k. let c = any_some a (λ k. x.ties Rmw k a) k in omega (arith, c.1, (one c.0 a a b a c.2 t (inr refl) (inl refl)).0))
          (λ k. omega (arith, ltb-true a a (and_parts (ltb a a) (any 64 (x.ties Rmw a)) k).0)) (or_cases _ _ h)

      at_b : stands_before x a b ≡ true → ⊥
      at_b h =
          ⊎_elim (λ k. let c = any_some a (λ k. x.ties Rmw k b) k in omega (arith, c.1, (one c.0 b a b b c.2 t (inr refl) (inr refl)).0))
          (λ k.
          let l : (ltb b a ≡ true) × (any 64 (x.ties Rmw b) ≡ true) = and_parts (ltb b a) (any 64 (x.ties Rmw b)) k in
          let d : (c : ℕ) × (c < 64) × (x.ties Rmw b c ≡ true) = any_some 64 (x.ties Rmw b) l.1 in
          omega (arith, ltb-true b a l.0, (one b d.0 a b b d.2 t (inl refl) (inr refl)).0))
          (or_cases _ _ h)

      in_row : any b (x.ties Rmw a) ≡ true → ⊥
      in_row h = let d = any_some b (x.ties Rmw a) h in omega (arith, d.1, (one a d.0 a b a d.2 t (inl refl) (inl refl)).1)
