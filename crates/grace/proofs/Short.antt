-- Short trips: a trip that takes two relays from one event has a round in it, or is no worse without what lies between. So rounds are
-- short, and where there is none each trip has a short one that is no worse.
use Rattle.std.proofs.Common.{◌≡◌, ℕ, zero, suc, ◌+◌, ◌<◌, ◌≤◌, true, false, ◌||◌, eqb, ◌⊎◌, sym, refl, ap, ◌∙◌, subst, inl, inr, ⊎_elim, true≢false, arith}
use Rattle.std.proofs.lemmas.Bool.{cases_Bool, cases_eq, cases_lt}
use Rattle.std.proofs.lemmas.Bool.Decides.{nat_tests}
use Rattle.rows.specs.Row.{Set, count, tick}
use Rattle.rows.proofs.Words.{count_le}
use Rattle.grace.proofs.Trips.{Links, Relays, Trip, Trip.last, Trip.via, Round, Round.round}

-- ---- sets, and sets with one event more

none : Set
none a = false

none_has : (a : ℕ) → none a ≡ false
unfolding none
none_has a = refl

pub adding : ℕ → Set → Set
adding a s b = s b || eqb b a

adding_there : (a : ℕ) (s : Set) → adding a s a ≡ true
unfolding adding
adding_there a s = grind (arith, nat_tests)

adding_other : (a : ℕ) (s : Set) (b : ℕ) → (b ≡ a → ⊥) → adding a s b ≡ s b
unfolding adding
adding_other a s b apart = grind (arith, nat_tests)

adding_old : (a : ℕ) (s : Set) (b : ℕ) → s b ≡ true → adding a s b ≡ true
unfolding adding
adding_old a s b h = grind (arith, nat_tests)

adding_cases : (a : ℕ) (s : Set) (b : ℕ) → adding a s b ≡ true → (s b ≡ true) ⊎ (b ≡ a)
unfolding adding
adding_cases a s b h = grind (arith, nat_tests)

count_past : (n a : ℕ) (s : Set) → n ≤ a → count n (adding a s) ≡ count n s
unfolding count
count_past zero a s le = refl
count_past (suc n) a s le = let e = ap tick (adding_other a s n (λ e. omega arith)) in omega (arith, e, count_past n a s (omega arith))

count_top : (n : ℕ) (s : Set) → s n ≡ false → count (suc n) (adding n s) ≡ suc (count (suc n) s)
unfolding count
count_top n s fresh =
    let u : tick (adding n s n) ≡ 1 = ap tick (adding_there n s) in
    let v : tick (s n) ≡ 0 = ap tick fresh in
    omega (arith, u, v, count_past n n s (omega arith))

-- a new member counts
pub size_more : (n a : ℕ) (s : Set) → a < n → s a ≡ false → count n (adding a s) ≡ suc (count n s)
unfolding count
size_more zero a s lt fresh = absurd (omega arith)
size_more (suc n) a s lt fresh =
    ⊎_elim (λ e. subst (λ m. s m ≡ false → count (suc n) (adding m s) ≡ suc (count (suc n) s)) (sym e) (count_top n s) fresh)
    (λ apart. let u : tick (adding a s n) ≡ tick (s n) = ap tick (adding_other a s n (λ e. apart (sym e))) in
    omega (arith, u, size_more n a s (omega arith) fresh))
    (cases_eq a n)

more_count : (n a : ℕ) (s : Set) → a < n → s a ≡ false → count n s < count n (adding a s)
more_count n a s lt fresh = omega (arith, size_more n a s lt fresh)

-- ---- trips

-- hops end among the first n events, and a relay counts one period, one section or nothing
module _ (hop : Links) (r : Relays) (n : ℕ) (ends : (a b : ℕ) → hop a b → b < n) (light : (i j a b : ℕ) → r i j a b → i + j ≤ 1) where
  -- a trip that takes its relays from the different events of s
  data Simple : ℕ → ℕ → ℕ → ℕ → Set → Type 0 where
    end : {a b : ℕ} → hop a b → Simple 0 0 a b none
    go : {i j k m p q a b c d : ℕ} {s : Set} → hop a b → s b ≡ false → r i j b c → Simple k m c d s → p ≡ i + k → q ≡ j + m → Simple p q a d (adding b s)

  simple_size : {p q a b : ℕ} {s : Set} → Simple p q a b s → p + q ≤ count n s
  simple_size (end h) = omega arith
  simple_size (go {b = b} {s = s} h fresh e t u v) = omega (arith, light _ _ _ _ e, simple_size t, more_count n b s (ends _ _ h) fresh)

  simple_ends : {p q a b : ℕ} {s : Set} → Simple p q a b s → b < n
  simple_ends (end h) = ends _ _ h
  simple_ends (go h fresh e t u v) = simple_ends t

  simple_trip : {p q a b : ℕ} {s : Set} → Simple p q a b s → Trip hop r p q a b
  simple_trip (end h) = last h
  simple_trip (go h fresh e t u v) = via h e (simple_trip t) u v

  -- ---- cut at the relay from d: what comes before it, and what comes after

  data Cut : ℕ → ℕ → ℕ → ℕ → Set → ℕ → Type 0 where
    cut : {p q i j k m u v a b c d : ℕ} {s s' s'' : Set} → Simple k m a d s' → s' d ≡ false → ((z : ℕ) → s' z ≡ true → s z ≡ true) → r i j d c
        → Simple u v c b s'' → s'' d ≡ false → p ≡ k + (i + u) → q ≡ m + (j + v) → Cut p q a b s d

  cut_here : {i j k m p q a b c d : ℕ} {s : Set} → hop a b → s b ≡ false → r i j b c → Simple k m c d s → p ≡ i + k → q ≡ j + m → Cut p q a d (adding b s) b
  cut_here h fresh e t u v = cut (end h) (none_has _) (λ z g. absurd (true≢false (sym g ∙ none_has z))) e t fresh (omega arith) (omega arith)

  cut_later : {i j k m p q a b c d y : ℕ} {s : Set} → hop a b → s b ≡ false → (y ≡ b → ⊥) → r i j b c → p ≡ i + k → q ≡ j + m → Cut k m c d s y
      → Cut p q a d (adding b s) y
  cut_later {b = b} {y = y} {s} h fresh apart e u v (cut {s' = s'} t free sub e' w after k l) =
      cut (go h still e t refl refl) (adding_other b s' y apart ∙ free) more e' w after (omega arith) (omega arith)
    where
      still : s' b ≡ false
      still = ⊎_elim (λ g. absurd (true≢false (sym (sub b g) ∙ fresh))) (λ g. g) (cases_Bool (s' b))

      more : (z : ℕ) → adding b s' z ≡ true → adding b s z ≡ true
      more z g = ⊎_elim (λ f. adding_old b s z (sub z f)) (λ f. subst (λ y. adding b s y ≡ true) (sym f) (adding_there b s)) (adding_cases b s' z g)

  cut_at : {p q a b : ℕ} {s : Set} → Simple p q a b s → (y : ℕ) → s y ≡ true → Cut p q a b s y
  cut_at (end h) y g = absurd (true≢false (sym g ∙ none_has y))
  cut_at {p} {q} {a} {b = d} (go {k = k} {m} {b = b} {c} {s = s} h fresh e t u v) y g = by (λ f. cut_at t y f) (cases_eq y b)
    where
      by : (s y ≡ true → Cut k m c d s y) → (y ≡ b) ⊎ (y ≡ b → ⊥) → Cut p q a d (adding b s) y
      by later (inl f) = subst (λ z. Cut p q a d (adding b s) z) (sym f) (cut_here h fresh e t u v)
      by later (inr f) = cut_later h fresh f e u v (later (sym (adding_other b s y f) ∙ g))

  -- ---- a trip cut down: a short round turns up, or a simple trip that is no worse is left

  pub data Short : Type 0 where
    short : {i j p q a b : ℕ} → r i j a b → Trip hop r p q b a → j + q ≤ i + p → i + j + (p + q) ≤ n → Short

  simple_round : {i j p q a b : ℕ} {s : Set} → r i j a b → Simple p q b a s → s a ≡ false → j + q ≤ i + p → Short
  simple_round {a = a} {s = s} e t fresh le =
      short e (simple_trip t) le (omega (arith, light _ _ _ _ e, simple_size t, more_count n a s (simple_ends t) fresh, count_le n (adding a s)))

  data Cleared : ℕ → ℕ → ℕ → ℕ → Type 0 where
    turned_up : {p q a b : ℕ} → Short → Cleared p q a b
    cleared : {p q k m a b : ℕ} {s : Set} → Simple k m a b s → p + m ≤ k + q → Cleared p q a b

  clear_cut : {i j k m p q a b c d : ℕ} {s : Set} → hop a b → r i j b c → Cut k m c d s b → p + (j + m) ≤ i + k + q → Cleared p q a d
  clear_cut {i} {j} {p = p} {q} {a} {d = d} h e (cut {k = k} {m = m} t free sub e' w after u v) le = by (cases_lt (i + k) (j + m))
    where
      by : (i + k < j + m) ⊎ (j + m ≤ i + k) → Cleared p q a d
      by (inl less) = cleared (go h after e' w refl refl) (omega arith)
      by (inr ge) = turned_up (simple_round e t free ge)

  clear_via : {i j k m p q a b c d : ℕ} → hop a b → r i j b c → p ≡ i + k → q ≡ j + m → Cleared k m c d → Cleared p q a d
  clear_via h e u v (turned_up f) = turned_up f
  clear_via {p = p} {q} {a} {b} {d = d} h e u v (cleared {s = s} t le) = by (cases_Bool (s b))
    where
      by : (s b ≡ true) ⊎ (s b ≡ false) → Cleared p q a d
      by (inl g) = clear_cut h e (cut_at t b g) (omega arith)
      by (inr g) = cleared (go h g e t refl refl) (omega arith)

  clear_trip : {p q a b : ℕ} → Trip hop r p q a b → Cleared p q a b
  clear_trip (last h) = cleared (end h) (omega arith)
  clear_trip (via h e t u v) = clear_via h e u v (clear_trip t)

  -- ---- rounds, and trips where there is no round

  round_cut : {i j k m a b : ℕ} {s : Set} → r i j a b → Cut k m b a s a → j + m ≤ i + k → Short
  round_cut {i} {j} e (cut {k = k} {m = m} t free sub e' w after u v) le = by (cases_lt (i + k) (j + m))
    where
      by : (i + k < j + m) ⊎ (j + m ≤ i + k) → Short
      by (inl less) = simple_round e' w after (omega arith)
      by (inr ge) = simple_round e t free ge

  round_cleared : {i j p q a b : ℕ} → r i j a b → j + q ≤ i + p → Cleared p q b a → Short
  round_cleared e le (turned_up f) = f
  round_cleared {a = a} e le (cleared {s = s} t g) = by (cases_Bool (s a))
    where
      by : (s a ≡ true) ⊎ (s a ≡ false) → Short
      by (inl f) = round_cut e (cut_at t a f) (omega arith)
      by (inr f) = simple_round e t f (omega arith)

  pub short_round : Round hop r → Short
  short_round (round e t le) = round_cleared e le (clear_trip t)

  pub short_trip : {p q a b : ℕ} → (Round hop r → ⊥) → Trip hop r p q a b → (k : ℕ) × (m : ℕ) × Trip hop r k m a b × (k + m ≤ n) × (p + m ≤ k + q)
  short_trip {p} {q} {a} {b} clear t = by (clear_trip t)
    where
      by : Cleared p q a b → (k : ℕ) × (m : ℕ) × Trip hop r k m a b × (k + m ≤ n) × (p + m ≤ k + q)
      by (turned_up f) = absurd (no_short f)
        where
          no_short : Short → ⊥
          no_short (short e t le few) = clear (round e t le)
      by (cleared {s = s} t le) = (_, _, simple_trip t, omega (arith, simple_size t, count_le n s), le)
