-- Of more numbers than places, two share a place.
use Rattle.std.proofs.Common.{◌≡◌, ℕ, zero, suc, ◌-◌, ◌<◌, ◌≤◌, cond, ltb, ◌⊎◌, sym, ap, ◌∙◌, inl, inr, ⊎_elim, arith}
use Rattle.std.proofs.lemmas.Bool.{cases_eq}
use Rattle.std.proofs.lemmas.Bool.Decides.{nat_tests}

-- whether a value is taken below n
taken : (n v : ℕ) (f : ℕ → ℕ) → ((i : ℕ) × (i < n) × (f i ≡ v)) ⊎ ((i : ℕ) → i < n → f i ≡ v → ⊥)
taken zero v f = inr (λ i h e. omega arith)
taken (suc n) v f = ⊎_elim (λ e. inl (n, omega arith, e)) (λ z. ⊎_elim (λ t. inl (t.0, omega (arith, t.1), t.2)) (λ t. inr (none z t)) (taken n v f)) (cases_eq (f n) v)
  where
    none : (f n ≡ v → ⊥) → ((i : ℕ) → i < n → f i ≡ v → ⊥) → (i : ℕ) → i < suc n → f i ≡ v → ⊥
    none z t i h e = ⊎_elim (λ w. z (sym (ap f w) ∙ e)) (λ w. t i (omega arith) e) (cases_eq i n)

-- the numbers but v, moved together
gap : ℕ → ℕ → ℕ
gap v x = cond (ltb x v) x (x - 1)

gap_below : (m v x : ℕ) → v < suc m → x < suc m → (x ≡ v → ⊥) → gap v x < m
unfolding gap
gap_below m v x h l n = grind (arith, nat_tests)

gap_same : (v x y : ℕ) → (x ≡ v → ⊥) → (y ≡ v → ⊥) → gap v x ≡ gap v y → x ≡ y
unfolding gap
gap_same v x y h l e = grind (arith, nat_tests)

-- n + 1 values below n are not all different
pub shared : (n : ℕ) (f : ℕ → ℕ) → ((i : ℕ) → i ≤ n → f i < n) → (i : ℕ) × (j : ℕ) × (i < j) × (j ≤ n) × (f i ≡ f j)
shared zero f h = absurd (omega (arith, h 0 (omega arith)))
shared (suc m) f h =
    ⊎_elim (λ t. (t.0, suc m, t.1, omega arith, t.2)) (λ t. apart t (shared m (λ i. gap (f (suc m)) (f i)) (moved t))) (taken (suc m) (f (suc m)) f)
  where
    moved : ((i : ℕ) → i < suc m → f i ≡ f (suc m) → ⊥) → (i : ℕ) → i ≤ m → gap (f (suc m)) (f i) < m
    moved t i l = gap_below m (f (suc m)) (f i) (h (suc m) (omega arith)) (h i (omega arith)) (t i (omega arith))

    apart : ((i : ℕ) → i < suc m → f i ≡ f (suc m) → ⊥)
        → (i : ℕ) × (j : ℕ) × (i < j) × (j ≤ m) × (gap (f (suc m)) (f i) ≡ gap (f (suc m)) (f j))
        → (i : ℕ) × (j : ℕ) × (i < j) × (j ≤ suc m) × (f i ≡ f j)
    apart t s = (s.0, s.1, s.2, omega (arith, s.3), gap_same (f (suc m)) (f s.0) (f s.1) (t s.0 (omega (arith, s.2, s.3))) (t s.1 (omega (arith, s.3))) s.4)
