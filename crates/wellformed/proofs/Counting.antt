-- A set with exactly one number below n.
use Rattle.std.proofs.Common.{◌≡◌, ℕ, zero, suc, ◌+◌, ◌<◌, true, false, sym, refl, ap, subst, ⊎_elim, arith}
use Rattle.std.proofs.lemmas.Bool.{cases_eq, cases_Bool, both_ways}
use Rattle.rows.specs.Row.{Set, count, tick}

pub record One (s : Set) (n : ℕ) : Type 0 where
  pub at : ℕ
  pub below : at < n
  pub member : s at ≡ true
  pub only : (i : ℕ) → i < n → s i ≡ true → i ≡ at

pub count_zero : (s : Set) (n : ℕ) → count n s ≡ 0 → (i : ℕ) → i < n → s i ≡ true → ⊥
unfolding count
count_zero s zero e i h t = omega arith
count_zero s (suc n) e i h t =
    ⊎_elim (λ q. let z : tick (s n) ≡ 1 = ap tick (subst (λ (k : ℕ). s k ≡ true) q t) in omega arith)
    (λ q. count_zero s n (omega arith) i (omega arith) t) (cases_eq i n)

pub zero_count : (s : Set) (n : ℕ) → ((i : ℕ) → i < n → s i ≡ true → ⊥) → count n s ≡ 0
unfolding count
zero_count s zero none = refl
zero_count s (suc n) none =
    ⊎_elim (λ t. absurd (none n (omega arith) t)) (λ f. let z : tick (s n) ≡ 0 = ap tick f in omega (arith, zero_count s n (λ i h t. none i (omega arith) t)))
    (cases_Bool (s n))

pub one_from_count : (s : Set) (n : ℕ) → count n s ≡ 1 → One s n
unfolding count
one_from_count s zero e = absurd (omega arith)
one_from_count s (suc n) e = ⊎_elim here (there (one_from_count s n)) (cases_Bool (s n))
  where
    here : s n ≡ true → One s (suc n)
    here t =
        let z : tick (s n) ≡ 1 = ap tick t in
        record {
          at = n;
          below = omega arith;
          member = t;
          only = λ i h u. ⊎_elim (λ q. q) (λ q. absurd (count_zero s n (omega arith) i (omega arith) u)) (cases_eq i n);
        }

    there : (count n s ≡ 1 → One s n) → s n ≡ false → One s (suc n)
    there later f =
        let z : tick (s n) ≡ 0 = ap tick f in
        let o = later (omega arith) in
        record {
          at = o.at;
          below = omega (arith, o.below);
          member = o.member;
          only = λ i h u. ⊎_elim (λ q. absurd (both_ways (s n) f (subst (λ (k : ℕ). s k ≡ true) q u))) (λ q. o.only i (omega arith) u) (cases_eq i n);
        }

pub count_from_one : (s : Set) (n : ℕ) → One s n → count n s ≡ 1
unfolding count
count_from_one s zero o = absurd (omega (arith, o.below))
count_from_one s (suc n) o = ⊎_elim here (there (count_from_one s n)) (cases_eq o.at n)
  where
    here : o.at ≡ n → tick (s n) + count n s ≡ 1
    here q =
        let z : tick (s n) ≡ 1 = ap tick (subst (λ (k : ℕ). s k ≡ true) q o.member) in
        omega (arith, zero_count s n (λ i h t. omega (arith, o.only i (omega arith) t)))

    there : (One s n → count n s ≡ 1) → (o.at ≡ n → ⊥) → tick (s n) + count n s ≡ 1
    there later q =
        let f : s n ≡ false = ⊎_elim (λ t. absurd (q (sym (o.only n (omega arith) t)))) (λ u. u) (cases_Bool (s n)) in
        let z : tick (s n) ≡ 0 = ap tick f in
        let b : o.at < n = omega (arith, o.below, q) in
        omega (arith, later (record { at = o.at; below = b; member = o.member; only = λ i h t. o.only i (omega arith) t }))
