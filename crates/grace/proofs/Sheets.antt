-- A sheet has the best balances, and goes on having them with each relay that makes no round.
use Rattle.std.proofs.Common.{◌≡◌, ℕ, zero, suc, ◌+◌, ◌-◌, ◌<◌, ◌≤◌, true, false, cond, ◌&&◌, leb, refl, inl, inr, ⊎_elim, arith}
use Rattle.std.proofs.lemmas.Bool.{and_from, and_parts, leb-true, le-leb, cases_eq, cases_lt}
use Rattle.std.proofs.lemmas.Bool.Decides.{nat_tests}
use Rattle.rows.proofs.Any.{any_some, any_from, any_clear}
use Rattle.relations.specs.Algebra.{Set}
use Rattle.grace.specs.Sheet.{Sheet, Fits, most, joined, relayed, turns}
use Rattle.grace.proofs.Trips.{Links, Relays, Trip, Trip.last, Trip.via, Round, Round.round, extend, trip_mono}
use Rattle.grace.proofs.Cuts.{With, Back, Back.back, Split, Split.found, Split.whole, Split.parts, split, way_back}
use Rattle.grace.proofs.Short.{short_trip}

-- ---- the largest value over a set

pub most_above : (n k : ℕ) (s : Set) (v : ℕ → ℕ) → k < n → s k ≡ true → v k ≤ most n s v
unfolding most
most_above zero k s v lt e = absurd (omega arith)
most_above (suc n) k s v lt e = let below : k < n → v k ≤ most n s v = λ l. most_above n k s v l e in grind (arith, nat_tests, cases_eq k n)

pub most_met : (n : ℕ) (s : Set) (v : ℕ → ℕ) → 1 ≤ most n s v → (k : ℕ) × (k < n) × (s k ≡ true) × (v k ≡ most n s v)
unfolding most
most_met zero s v le = absurd (omega arith)
most_met (suc n) s v le =
    ⊎_elim (λ top. (n, omega arith, grind (arith, nat_tests), grind (arith, nat_tests)))
    (λ ge. let m = most_met n s v (omega arith) in (m.0, omega (arith, m.1), m.2, omega (arith, m.3)))
    (cases_lt (most n s v) (cond (s n) (v n) 0))

-- ---- two ways, one after the other

joined_is : (i j u v : ℕ) → 1 ≤ u → 1 ≤ v → joined i j u v ≡ (u + v + i) - (128 + j)
unfolding joined
joined_is i j u v a b = grind (arith, nat_tests)

joined_some : (i j u v : ℕ) → 1 ≤ joined i j u v → (1 ≤ u) × (1 ≤ v)
unfolding joined
joined_some i j u v le = grind (arith, nat_tests)

pub joined_none : (i j u v : ℕ) → u ≡ 0 → joined i j u v ≡ 0
unfolding joined
joined_none i j u v e = rw e refl

-- the members of a set
abbrev pub In : Set → ℕ → Type 0
In s a = s a ≡ true

-- m has the best balance of the trips between any two events
pub record Best (hop : Links) (r : Relays) (m : Sheet) : Type 0 where
  pub bound : (p q a b : ℕ) → Trip hop r p q a b → (1 ≤ m a b) × (p + 128 ≤ m a b + q)
  pub met : (a b : ℕ) → 1 ≤ m a b → (p : ℕ) × (q : ℕ) × Trip hop r p q a b × (m a b + q ≡ p + 128)

-- hops join the first 64 events
module _ (hop : Links) (within : (a b : ℕ) → hop a b → (a < 64) × (b < 64)) where
  trip_starts : {r : Relays} {p q a b : ℕ} → Trip hop r p q a b → a < 64
  trip_starts (last h) = (within _ _ h).0
  trip_starts (via h e t u v) = (within _ _ h).0

  trip_ends : {r : Relays} {p q a b : ℕ} → Trip hop r p q a b → b < 64
  trip_ends (last h) = (within _ _ h).1
  trip_ends (via h e t u v) = trip_ends t

  module _ (r : Relays) (m : Sheet) (best : Best hop r m) where
    -- the best balance lies between -64 and 64, so that an entry fits a byte
    pub best_fits : ((i j a b : ℕ) → r i j a b → i + j ≤ 1) → (Round hop r → ⊥) → Fits m
    best_fits light clear a b le =
        let w = best.met a b le in
        let s = short_trip hop r 64 (λ a b h. (within a b h).1) light clear w.2 in
        let k = best.bound s.0 s.1 a b s.2 in
        (omega (arith, s.3, k.1), omega (arith, w.3, s.3, s.4))

    module _ (into out : Set) (i j : ℕ) (small : i + j ≤ 1) where
      -- the test of a round with the new relay
      pub turns_back : turns m into out i j ≡ true → Back hop r (In into) (In out) i j
      unfolding turns
      turns_back e =
          let h = any_some 64 (λ d. out d && leb (128 + j) (most 64 into (m d) + i)) e in
          let k = and_parts (out h.0) (leb (128 + j) (most 64 into (m h.0) + i)) h.2 in
          let le = leb-true (128 + j) (most 64 into (m h.0) + i) k.1 in
          let c = most_met 64 into (m h.0) (omega arith) in
          let at : m h.0 c.0 ≡ most 64 into (m h.0) = c.3 in
          let w = best.met h.0 c.0 (omega arith) in
          let eq = w.3 in
          back {p = w.0} {q = w.1} k.0 c.2 w.2 (omega arith)

      pub back_turns : Back hop r (In into) (In out) i j → turns m into out i j ≡ true
      unfolding turns
      back_turns (back {p} {q} {a} {b} o y t le) =
          let k = best.bound p q a b t in
          let u = most_above 64 b into (m a) (trip_ends t) y in
          any_from 64 a _ (trip_starts t)
          (and_from _ _ o (le-leb _ _ (omega (arith, k.1))))

      pub turns_round : turns m into out i j ≡ true → Round hop (With r (In into) (In out) i j)
      turns_round e = by (turns_back e)
        where
          by : Back hop r (In into) (In out) i j → Round hop (With r (In into) (In out) i j)
          by (back o y t le) = round (inr (refl, refl, y, o)) (trip_mono (λ i j a b. inl) t) le

      pub round_turns : (Round hop r → ⊥) → Round hop (With r (In into) (In out) i j) → turns m into out i j ≡ true
      round_turns clear t = back_turns (way_back hop r (In into) (In out) i j clear t)

      -- ---- the sheet with the new relay

      relayed_old : (a b : ℕ) → m a b ≤ relayed m into out i j a b
      unfolding relayed
      relayed_old a b = omega arith

      relayed_new : (a b c d : ℕ) → c < 64 → into c ≡ true → d < 64 → out d ≡ true → 1 ≤ m a c → 1 ≤ m d b
          → (m a c + m d b + i) - (128 + j) ≤ relayed m into out i j a b
      unfolding relayed
      relayed_new a b c d cl ci dl oi u v =
          let k = most_above 64 c into (m a) cl ci in
          let l = most_above 64 d out (λ d. m d b) dl oi in
          let e = joined_is i j (most 64 into (m a)) (most 64 out (λ d. m d b)) (omega arith) (omega arith) in
          omega arith

      bound_split : {p q a b : ℕ} → (Back hop r (In into) (In out) i j → ⊥) → p + q ≤ 64 → Split hop r (In into) (In out) i j p q a b
          → (1 ≤ relayed m into out i j a b) × (p + 128 ≤ relayed m into out i j a b + q)
      bound_split no_back few (found w) = absurd (no_back w)
      bound_split {p} {q} {a} {b} no_back few (whole t) = grind (arith, nat_tests, relayed_old)
      bound_split {a = a} {b} no_back few (parts {k = k} {m = n} {u} {v} {c} {d} t y z w le) =
          let f = best.bound k n a c t in
          let g = best.bound u v d b w in
          let o = relayed_new a b c d (trip_ends t) y (trip_starts w) z f.0 g.0 in
          (omega (arith, f.1, g.1), omega (arith, f.1, g.1))

      met_old : (a b : ℕ) → 1 ≤ m a b → (p : ℕ) × (q : ℕ) × Trip hop (With r (In into) (In out) i j) p q a b × (m a b + q ≡ p + 128)
      met_old a b le = grind (arith, nat_tests, trip_mono)

      met_new : (a b : ℕ) → 1 ≤ joined i j (most 64 into (m a)) (most 64 out (λ d. m d b))
          → (p : ℕ) × (q : ℕ) × Trip hop (With r (In into) (In out) i j) p q a b × (joined i j (most 64 into (m a)) (most 64 out (λ d. m d b)) + q ≡ p + 128)
      met_new a b le =
          let s = joined_some i j (most 64 into (m a)) (most 64 out (λ d. m d b)) le in
          let e = joined_is i j (most 64 into (m a)) (most 64 out (λ d. m d b)) s.0 s.1 in
          let c = most_met 64 into (m a) s.0 in
          let d = most_met 64 out (λ d. m d b) s.1 in
          let f = met_old a c.0 (omega (arith, c.3, s.0)) in
          let g = met_old d.0 b (omega (arith, d.3, s.1)) in (
            f.0 + (i + g.0),
            f.1 + (j + g.1),
            extend f.2 (λ v h. via h (inr (refl, refl, c.2, d.2)) g.2 refl refl),
            omega (arith, c.3, d.3, f.3, g.3),
          )

      with_light : ((i j a b : ℕ) → r i j a b → i + j ≤ 1) → (k l a b : ℕ) → With r (In into) (In out) i j k l a b → k + l ≤ 1
      with_light light k l a b (inl e) = light k l a b e
      with_light light k l a b (inr e) = omega (arith, e.0, e.1)

      -- A relay that makes no round: the sheet with it has the best balances again.
      pub best_relayed : ((i j a b : ℕ) → r i j a b → i + j ≤ 1) → (Round hop (With r (In into) (In out) i j) → ⊥)
          → Best hop (With r (In into) (In out) i j) (relayed m into out i j)
      unfolding relayed
      best_relayed light clear = record {
        bound = λ p q a b t.
            let s = short_trip hop (With r (In into) (In out) i j) 64 (λ a b h. (within a b h).1) (with_light light) clear t in
            let k = bound_split no_back s.3 (split hop r (In into) (In out) i j s.2) in
            (k.0, omega (arith, k.1, s.4));
        met = λ a b le. ⊎_elim
            (λ lt. let w = met_new a b (omega arith) in (w.0, w.1, w.2, omega (arith, w.3)))
            (λ ge. let w = met_old a b (omega arith) in (w.0, w.1, w.2, omega (arith, w.3)))
            (cases_lt (m a b) (joined i j (most 64 into (m a)) (most 64 out (λ d. m d b))));
      }
        where
          no_back : Back hop r (In into) (In out) i j → ⊥
          no_back (back o y t le) = clear (round (inr (refl, refl, y, o)) (trip_mono (λ i j a b. inl) t) le)

-- a relay that nothing enters changes nothing, and does not turn
pub most_none : (n : ℕ) (s : Set) (v : ℕ → ℕ) → ((a : ℕ) → s a ≡ false) → most n s v ≡ 0
unfolding most
most_none zero s v none = refl
most_none (suc n) s v none = rw (none n) (omega (arith, most_none n s v none))

pub relayed_idle : (m : Sheet) (into out : Set) (i j : ℕ) → ((a : ℕ) → into a ≡ false) → (a b : ℕ) → relayed m into out i j a b ≡ m a b
unfolding relayed
relayed_idle m into out i j none a b = grind (arith, nat_tests, joined_none, most_none)

pub turns_idle : (m : Sheet) (into out : Set) (i j : ℕ) → i ≤ 1 → ((a : ℕ) → into a ≡ false) → turns m into out i j ≡ false
unfolding turns
turns_idle m into out i j small none = grind (arith, nat_tests, any_clear, most_none)
