-- The closure decides chains.
use Rattle.std.proofs.lemmas.Bool.Decides.{nat_tests}
use Rattle.std.proofs.Common.{◌≡◌, ℕ, zero, suc, ◌<◌, ◌≤◌, Bool, true, not, ◌&&◌, ◌⊎◌, Decides, sym, ◌∙◌, subst, ⊎_elim, arith}
use Rattle.std.proofs.lemmas.Bool.{false_from_ne_true, or_cases, or_left, and_parts, cases_eq, both_ways, not-true, not_from_false}
use Rattle.relations.specs.Algebra.{Rel, any, paths, plus}
use Rattle.relations.specs.Chains.{Chain, one, step, Acyclic, DecidesChains}
use Rattle.relations.specs.Table.{On}
use Rattle.relations.proofs.Ranges.{on_more}
use Rattle.relations.proofs.Tables.{both_same}
use Rattle.rows.proofs.Any.{any_from, any_some}

-- ---- a path is a chain

pub chain_append : {r : Rel} {a b c : ℕ} → Chain r a b → Chain r b c → Chain r a c
chain_append (one e) d = step e d
chain_append (step e s) d = step e (chain_append s d)

pub paths_sound : (k : ℕ) (r : Rel) (a b : ℕ) → paths k r a b ≡ true → Chain r a b
unfolding paths
paths_sound zero r a b h = one h
paths_sound (suc k) r a b h =
    ⊎_elim (λ e. paths_sound k r a b e)
    (λ e. let p = and_parts (paths k r a k) (paths k r k b) e in chain_append (paths_sound k r a k p.0) (paths_sound k r k b p.1))
    (or_cases (paths k r a b) (paths k r a k && paths k r k b) h)

-- ---- a chain is a path: paths are joined at any event below k

module _ (k : ℕ) (r : Rel) where
  paths_keep : (a b : ℕ) → paths k r a b ≡ true → paths (suc k) r a b ≡ true
  unfolding paths
  paths_keep a b h = or_left (paths k r a b) (paths k r a k && paths k r k b) h

  paths_meet : (a b : ℕ) → paths k r a k ≡ true → paths k r k b ≡ true → paths (suc k) r a b ≡ true
  unfolding paths
  paths_meet a b h g = grind (arith, nat_tests)

  -- a path with inner events up to k is one below k, or meets k once
  paths_split : (a b : ℕ) → paths (suc k) r a b ≡ true → (paths k r a b ≡ true) ⊎ ((paths k r a k ≡ true) × (paths k r k b ≡ true))
  unfolding paths
  paths_split a b h = grind (arith, nat_tests)

  -- a path from k, or to k, needs no inner k
  paths_into : (a : ℕ) → paths (suc k) r a k ≡ true → paths k r a k ≡ true
  paths_into a h = ⊎_elim (λ e. e) (λ e. e.0) (paths_split a k h)

  paths_out : (b : ℕ) → paths (suc k) r k b ≡ true → paths k r k b ≡ true
  paths_out b h = ⊎_elim (λ e. e) (λ e. e.1) (paths_split k b h)

pub paths_join : (k j : ℕ) (r : Rel) (a b : ℕ) → j < k → paths k r a j ≡ true → paths k r j b ≡ true → paths k r a b ≡ true
paths_join zero j r a b l h g = absurd (omega arith)
paths_join (suc k) j r a b l h g = ⊎_elim last (λ n. inner (λ x y. paths_join k j r x y (omega arith))) (cases_eq j k)
  where
    last : j ≡ k → paths (suc k) r a b ≡ true
    last e =
        let h' : paths (suc k) r a k ≡ true = subst (λ (x : ℕ). paths (suc k) r a x ≡ true) e h in
        let g' : paths (suc k) r k b ≡ true = subst (λ (x : ℕ). paths (suc k) r x b ≡ true) e g in
        paths_meet k r a b (paths_into k r a h') (paths_out k r b g')

    inner : ((x y : ℕ) → paths k r x j ≡ true → paths k r j y ≡ true → paths k r x y ≡ true) → paths (suc k) r a b ≡ true
    inner join = ⊎_elim from_near from_far (paths_split k r a j h)
      where
        from_near : paths k r a j ≡ true → paths (suc k) r a b ≡ true
        from_near p =
            ⊎_elim (λ q. paths_keep k r a b (join a b p q)) (λ q. paths_meet k r a b (join a k p q.0) q.1) (paths_split k r j b g)

        from_far : (paths k r a k ≡ true) × (paths k r k j ≡ true) → paths (suc k) r a b ≡ true
        from_far p = ⊎_elim (λ q. paths_meet k r a b p.0 (join k b p.1 q)) (λ q. paths_meet k r a b p.0 q.1) (paths_split k r j b g)

pub paths_first : (k : ℕ) (r : Rel) (a b : ℕ) → r a b ≡ true → paths k r a b ≡ true
unfolding paths
paths_first zero r a b h = h
paths_first (suc k) r a b h = paths_keep k r a b (paths_first k r a b h)

pub paths_complete : (k : ℕ) (r : Rel) {a b : ℕ} → On k r → Chain r a b → paths k r a b ≡ true
paths_complete k r {a} {b} on (one e) = paths_first k r a b e
paths_complete k r {a} {b = c} on (step {b = b} e s) = paths_join k b r a c (on a b e).1 (paths_first k r a b e) (paths_complete k r on s)

pub closure_decides : (r : Rel) → On 64 r → DecidesChains (plus r) r
unfolding plus
closure_decides r on a b = (paths_sound 64 r a b, paths_complete 64 r on)

-- ---- the paths of a relation on n events stay there, and the first n rounds find them all

-- both ends of a chain
pub chain_ends : (n : ℕ) (r : Rel) {a b : ℕ} → On n r → Chain r a b → (a < n) × (b < n)
chain_ends n r {a} {b} on (one e) = on a b e
chain_ends n r {a} {b = c} on (step {b = b} e s) = ((on a b e).0, (chain_ends n r on s).1)

pub on_paths : (k n : ℕ) (r : Rel) → On n r → On n (paths k r)
on_paths k n r on a b h = chain_ends n r on (paths_sound k r a b h)

pub paths_enough : (n k : ℕ) (r : Rel) → On n r → n ≤ k → paths n r ≡ paths k r
paths_enough n k r on le = grind (arith, nat_tests, both_same, paths_complete, on_more, paths_sound)

-- so n rounds or more are the closure
pub plus_enough : (i n : ℕ) (r : Rel) → n ≤ i → i ≤ 64 → On n r → paths i r ≡ plus r
unfolding plus
plus_enough i n r le few on = paths_enough i 64 r (on_more n i r le on) few

pub chains_at : (s r : Rel) → s ≡ plus r → On 64 r → DecidesChains s r
chains_at s r e on = λ a b. subst (λ (t : Rel). Decides (t a b) (Chain r a b)) (sym e) (closure_decides r on a b)

-- ---- no event with a chain to itself

-- a test for an event that the closure relates to itself tells of a cycle
pub acyclic_test : (r s : Rel) (n : ℕ) (t : Bool) → n ≤ 64 → On n r → s ≡ plus r → t ≡ any n (λ a. s a a) → Decides (not t) (Acyclic r)
acyclic_test r s n t few on closure e = (λ h a c. both_ways t (not-true t h) (e ∙ looped a c), λ none. not_from_false t (false_from_ne_true t (λ h. back none (any_some n (λ a. s a a) (sym e ∙ h)))))
  where
    chains : DecidesChains s r
    chains = chains_at s r closure (on_more n 64 r few on)

    looped : (a : ℕ) → Chain r a a → any n (λ x. s x x) ≡ true
    looped a c = any_from n a (λ x. s x x) (chain_ends n r on c).0 ((chains a a).1 c)

    back : Acyclic r → (a : ℕ) × (a < n) × (s a a ≡ true) → ⊥
    back none h = none h.0 ((chains h.0 h.0).0 h.2)
