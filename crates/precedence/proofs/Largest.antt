-- The largest value over a set.
use Rattle.std.proofs.lemmas.Bool.Decides.{nat_tests}
use Rattle.std.proofs.Common.{◌≡◌, ℕ, zero, suc, ◌<◌, ◌≤◌, max, true, false, ap, ⊎_elim, arith}
use Rattle.std.proofs.lemmas.Bool.{cases_Bool, cases_eq, cond-true, cond-false}
use Rattle.rows.specs.Row.{Set, dropping, Lowest}
use Rattle.rows.proofs.Words.{dropped_parts, dropped_from}
use Rattle.grace.specs.Sheet.{most}
use Rattle.grace.proofs.Sheets.{most_above, most_none}

pub most_le : (n m : ℕ) (s : Set) (v : ℕ → ℕ) → ((k : ℕ) → k < n → s k ≡ true → v k ≤ m) → most n s v ≤ m
unfolding most
most_le zero m s v h = omega arith
most_le (suc n) m s v h =
    let rest = most_le n m s v (λ k l e. h k (omega arith) e) in
    ⊎_elim (λ e. omega (arith, cond-true {A = ℕ} (s n) (v n) 0 e, h n (omega arith) e)) (λ e. omega (arith, cond-false {A = ℕ} (s n) (v n) 0 e)) (cases_Bool (s n))

-- of values that are all 0
pub most_zero : (n : ℕ) (s : Set) (v : ℕ → ℕ) → ((k : ℕ) → k < n → v k ≡ 0) → most n s v ≡ 0
most_zero n s v none = grind (arith, nat_tests, most_le)

-- one number and the others
pub most_split : (c : ℕ) (s t : Set) (v : ℕ → ℕ) → Lowest s c → t ≡ dropping c s → most 64 s v ≡ max (v c) (most 64 t v)
most_split c s t v low e =
    let here = most_above 64 c s v low.room low.member in
    let fewer : most 64 (dropping c s) v ≤ most 64 s v = most_le 64 _ (dropping c s) v (λ k l h. most_above 64 k s v l (dropped_parts c s k h).1) in
    let all : most 64 s v ≤ max (v c) (most 64 (dropping c s) v) =
    most_le 64 _ s v (λ k l h. ⊎_elim (λ z. let w = ap v z in omega arith) (λ z. omega (arith, most_above 64 k (dropping c s) v l (dropped_from c s k z h))) (cases_eq k c)) in
    let same = ap (λ (u : Set). most 64 u v) e in
    omega arith

-- a loop that takes the lowest number out: one on, and when none is left
pub most_gathers : (k m c : ℕ) (s t : Set) (v : ℕ → ℕ) → Lowest s c → t ≡ dropping c s → k ≡ max m (v c) → max k (most 64 t v) ≡ max m (most 64 s v)
most_gathers k m c s t v low e h = omega (arith, most_split c s t v low e)

pub most_all : (m : ℕ) (s : Set) (v : ℕ → ℕ) → ((x : ℕ) → s x ≡ false) → m ≡ max m (most 64 s v)
most_all m s v none = omega (arith, most_none 64 s v none)
