-- Walks and chains, cycles and closed walks.
use Rattle.std.proofs.lemmas.Bool.Decides.{nat_tests}
use Rattle.std.proofs.Common.{◌≡◌, ℕ, zero, suc, ◌+◌, ◌-◌, ◌<◌, ◌≤◌, true, false, ◌&&◌, eqb, ltb, sym, refl, ap, ◌∙◌, subst, ⊎_elim, add-zero, suc-add, zero-add, arith}
use Rattle.std.proofs.lemmas.Bool.{and_parts, and_from, eqb-true, cases_lt, both_ways}
use Rattle.relations.specs.Algebra.{Rel, identity, seq}
use Rattle.relations.specs.Chains.{Chain, one, step, Acyclic}
use Rattle.relations.specs.Table.{On}
use Rattle.rows.proofs.Any.{any_some, any_from}
use Rattle.relations.proofs.Ranges.{on_more}
use Rattle.relations.proofs.Tables.{both_same}
use Rattle.searches.specs.Walks.{walks}
use Rattle.searches.proofs.Holes.{shared}

-- ---- the first step of a walk, and a step before one

pub walk_first : (k : ℕ) (r : Rel) (a b : ℕ) → walks (suc k) r a b ≡ true → (c : ℕ) × (c < 64) × (r a c ≡ true) × (walks k r c b ≡ true)
unfolding walks seq
walk_first k r a b h = grind (arith, nat_tests, any_some)

pub walk_step : (k : ℕ) (r : Rel) (a c b : ℕ) → c < 64 → r a c ≡ true → walks k r c b ≡ true → walks (suc k) r a b ≡ true
unfolding walks seq
walk_step k r a c b l h g = any_from 64 c (λ x. r a x && walks k r x b) l (and_from (r a c) (walks k r c b) h g)

pub walk_none : (r : Rel) (a : ℕ) → a < 64 → walks zero r a a ≡ true
unfolding walks identity
walk_none r a h = grind (arith, nat_tests)

pub walk_stays : (r : Rel) (a b : ℕ) → walks zero r a b ≡ true → a ≡ b
unfolding walks identity
walk_stays r a b h = eqb-true a b (and_parts (eqb a b) (ltb a 64) h).0

-- where a walk of one step or more begins
pub walk_begins : (n k : ℕ) (r : Rel) (a b : ℕ) → On n r → walks (suc k) r a b ≡ true → a < n
walk_begins n k r a b on h = let e = walk_first k r a b h in (on a e.0 e.2).0

pub closed_begins : (k : ℕ) (r : Rel) (a : ℕ) → On 64 r → 0 < k → walks k r a a ≡ true → a < 64
closed_begins zero r a on h w = absurd (omega arith)
closed_begins (suc k) r a on h w = walk_begins 64 k r a a on w

-- one walk after another
pub walk_append : (m n : ℕ) (r : Rel) (a b c : ℕ) → walks m r a b ≡ true → walks n r b c ≡ true → walks (m + n) r a c ≡ true
walk_append zero n r a b c h g = grind (arith, nat_tests, zero-add, walk_stays)
walk_append (suc m) n r a b c h g =
    let e = walk_first m r a b h in
    subst (λ (x : ℕ). walks x r a c ≡ true) (sym (suc-add m n)) (walk_step (m + n) r a e.0 c e.1 e.2 (walk_append m n r e.0 b c e.3 g))

-- one step
pub walk_one : (r : Rel) (a b : ℕ) → On 64 r → r a b ≡ true → walks 1 r a b ≡ true
walk_one r a b on h = walk_step zero r a b b (on a b h).1 h (walk_none r b (on a b h).1)

pub one_walk : (r : Rel) (a b : ℕ) → walks 1 r a b ≡ true → r a b ≡ true
one_walk r a b h = grind (arith, nat_tests, walk_first, walk_stays)

-- and so the walks of one step are the relation
pub walks_one : (r : Rel) → On 64 r → r ≡ walks 1 r
walks_one r on = grind (arith, nat_tests, both_same, walk_one, one_walk)

-- a chain is a walk
pub chain_walk : (r : Rel) {a b : ℕ} → On 64 r → Chain r a b → (k : ℕ) × (walks (suc k) r a b ≡ true)
chain_walk r {a} {b} on (one e) = (0, walk_one r a b on e)
chain_walk r {a} {b = c} on (step {b = b} e s) = let w = chain_walk r on s in (suc w.0, walk_step (suc w.0) r a b c (on a b e).1 e w.1)

-- and a walk of one step or more is a chain
pub walk_chain : (k : ℕ) (r : Rel) (a b : ℕ) → walks (suc k) r a b ≡ true → Chain r a b
walk_chain zero r a b h = one (one_walk r a b h)
walk_chain (suc k) r a b h = let e = walk_first (suc k) r a b h in step e.2 (walk_chain k r e.0 b e.3)

-- ---- a walk as a sequence of events

-- the first n steps of the sequence are in r
abbrev pub Run : Rel → (ℕ → ℕ) → ℕ → Type 0
Run r f n = (i : ℕ) → i < n → r (f i) (f (suc i)) ≡ true

-- any stretch of it is a walk
pub run_walk : (d i n : ℕ) (r : Rel) (f : ℕ → ℕ) → On 64 r → Run r f n → f i < 64 → i + d ≤ n → walks d r (f i) (f (i + d)) ≡ true
run_walk zero i n r f on run h l = grind (arith, nat_tests, add-zero, walk_none)
run_walk (suc d) i n r f on run h l =
    let e = run i (omega arith) in
    let far = (on (f i) (f (suc i)) e).1 in
    subst (λ (x : ℕ). walks (suc d) r (f i) (f x) ≡ true) (omega arith) (walk_step d r (f i) (f (suc i)) (f (suc i + d)) far e (run_walk d (suc i) n r f on run far (omega arith)))

-- a walk as such a sequence
ahead : ℕ → (ℕ → ℕ) → ℕ → ℕ
ahead a f zero = a
ahead a f (suc i) = f i

run_ahead : (k : ℕ) (r : Rel) (a c : ℕ) (f : ℕ → ℕ) → r a c ≡ true → f 0 ≡ c → Run r f k → Run r (ahead a f) (suc k)
unfolding ahead
run_ahead k r a c f h e run zero l = subst (λ (x : ℕ). r a x ≡ true) (sym e) h
run_ahead k r a c f h e run (suc i) l = run i (omega arith)

pub walk_run : (k : ℕ) (r : Rel) (a b : ℕ) → walks k r a b ≡ true → (f : ℕ → ℕ) × (f 0 ≡ a) × Run r f k
unfolding ahead
walk_run zero r a b h = ((λ _. a), refl, (λ i l. absurd (omega arith)))
walk_run (suc k) r a b h =
    let e = walk_first k r a b h in
    let w = walk_run k r e.0 b e.3 in
    (ahead a w.0, refl, run_ahead k r a e.0 w.0 e.2 w.1 w.2)

-- ---- a closed walk on n events has one of at most n steps

pub short_closed : (n k : ℕ) (r : Rel) (a : ℕ) → n ≤ 64 → On n r → walks (suc k) r a a ≡ true
    → (m : ℕ) × (b : ℕ) × (m < n) × (walks (suc m) r b b ≡ true)
short_closed n k r a few on h = ⊎_elim short long (cases_lt k n)
  where
    short : k < n → (m : ℕ) × (b : ℕ) × (m < n) × (walks (suc m) r b b ≡ true)
    short l = (k, a, l, h)

    long : n ≤ k → (m : ℕ) × (b : ℕ) × (m < n) × (walks (suc m) r b b ≡ true)
    long l =
        let w = walk_run (suc k) r a a h in
        let f = w.0 in
        let two = shared n f (λ i le. (on (f i) (f (suc i)) (w.2 i (omega arith))).0) in
        let i = two.0 in
        let j = two.1 in
        let far : j ≡ i + suc (j - i - 1) = omega (arith, two.2) in
        let near : f i < 64 = omega (arith, (on (f i) (f (suc i)) (w.2 i (omega (arith, two.2, two.3)))).0) in
        let round = run_walk (suc (j - i - 1)) i (suc k) r f (on_more n 64 r few on) w.2 near (omega (arith, two.2, two.3)) in
        (j - i - 1, f i, omega (arith, two.2, two.3), subst (λ (x : ℕ). walks (suc (j - i - 1)) r (f i) x ≡ true) (sym (two.4 ∙ ap f far)) round)

-- so where none is that short, there is no chain that comes back
pub no_closed : (n : ℕ) (r : Rel) → n ≤ 64 → On n r → ((m b : ℕ) → m < n → walks (suc m) r b b ≡ false) → Acyclic r
no_closed n r few on none a s =
    let w = chain_walk r (on_more n 64 r few on) s in
    let e = short_closed n w.0 r a few on w.1 in
    both_ways (walks (suc e.0) r e.1 e.1) (none e.0 e.1 e.2) e.3
