-- One relay more, from a set `into` to a set `out`: where there was no round, there is one only if a trip leads back from `out`
-- to `into` that makes one with it; and where there is none, no trip gains by using it twice.
use Rattle.std.proofs.Common.{◌≡◌, ℕ, ◌+◌, ◌<◌, ◌≤◌, ◌⊎◌, refl, inl, inr, arith}
use Rattle.std.proofs.lemmas.Bool.{cases_lt}
use Rattle.grace.proofs.Trips.{Links, Relays, Trip, Trip.last, Trip.via, Round, Round.round, extend}

-- the relays r, and one from each event of `into` to each of `out` that counts i periods and j sections
abbrev pub With : Relays → (ℕ → Type 0) → (ℕ → Type 0) → ℕ → ℕ → Relays
With r into out i j m n a b = r m n a b ⊎ ((m ≡ i) × (n ≡ j) × into a × out b)

-- a trip back from `out` to `into` that makes a round with such a relay
pub data Back (hop : Links) (r : Relays) (into out : ℕ → Type 0) (i j : ℕ) : Type 0 where
  back : {p q a b : ℕ} → out a → into b → Trip hop r p q a b → j + q ≤ i + p → Back hop r into out i j

-- a trip over the new relays: one over the old, or one to the new relay and one on from it with no less to their account
pub data Split (hop : Links) (r : Relays) (into out : ℕ → Type 0) (i j : ℕ) : ℕ → ℕ → ℕ → ℕ → Type 0 where
  found : {p q a b : ℕ} → Back hop r into out i j → Split hop r into out i j p q a b
  whole : {p q a b : ℕ} → Trip hop r p q a b → Split hop r into out i j p q a b
  parts : {p q a b k m u v c d : ℕ} → Trip hop r k m a c → into c → out d → Trip hop r u v d b → p + (m + j + v) ≤ k + i + u + q
      → Split hop r into out i j p q a b

module _ (hop : Links) (r : Relays) (into out : ℕ → Type 0) (i j : ℕ) where
  split_old : {m n k l p q a b c d : ℕ} → hop a b → r m n b c → p ≡ m + k → q ≡ n + l → Split hop r into out i j k l c d → Split hop r into out i j p q a d
  split_old h e u v (found w) = found w
  split_old h e u v (whole t) = whole (via h e t u v)
  split_old h e u v (parts t y z w le) = parts (via h e t refl refl) y z w (omega arith)

  split_new : {k l p q a b c d : ℕ} → hop a b → into b → out c → p ≡ i + k → q ≡ j + l → Split hop r into out i j k l c d → Split hop r into out i j p q a d
  split_new h y z u v (found w) = found w
  split_new h y z u v (whole t) = parts (last h) y z t (omega arith)
  split_new {p = p} {q} {a} {d = d} h y z u v (parts {k = k} {m = m} t y' z' w le) = by (cases_lt (i + k) (j + m))
    where
      by : (i + k < j + m) ⊎ (j + m ≤ i + k) → Split hop r into out i j p q a d
      by (inl lt) = parts (last h) y z' w (omega arith)
      by (inr ge) = found (back z y' t ge)

  pub split : {p q a b : ℕ} → Trip hop (With r into out i j) p q a b → Split hop r into out i j p q a b
  split (last h) = whole (last h)
  split (via h (inl e) t u v) = split_old h e u v (split t)
  split (via h (inr e) t u v) =
      let ei = e.0 in
      let ej = e.1 in
      split_new h e.2 e.3 (omega arith) (omega arith) (split t)

  -- the last part and the first, joined where the round begins
  close_old : {m n p q a b : ℕ} → (Round hop r → ⊥) → r m n a b → n + q ≤ m + p → Split hop r into out i j p q b a → Back hop r into out i j
  close_old clear e le (found w) = w
  close_old clear e le (whole t) = absurd (clear (round e t le))
  close_old clear e le (parts t y z w k) = back z y (extend w (λ v h. via h e t refl refl)) (omega arith)

  close_new : {p q a b : ℕ} → into a → out b → j + q ≤ i + p → Split hop r into out i j p q b a → Back hop r into out i j
  close_new y z le (found w) = w
  close_new y z le (whole t) = back z y t le
  close_new y z le (parts {k = k} {m = m} t y' z' w g) = by (cases_lt (i + k) (j + m))
    where
      by : (i + k < j + m) ⊎ (j + m ≤ i + k) → Back hop r into out i j
      by (inl lt) = back z' y w (omega arith)
      by (inr ge) = back z y' t ge

  -- a round over the new relays shows a way back
  pub way_back : (Round hop r → ⊥) → Round hop (With r into out i j) → Back hop r into out i j
  way_back clear (round (inl e) t le) = close_old clear e le (split t)
  way_back clear (round (inr e) t le) =
      let ei = e.0 in
      let ej = e.1 in
      close_new e.2 e.3 (omega arith) (split t)
