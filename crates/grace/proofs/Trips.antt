-- Trips: hops and relays in turn. A relay leads from one event to another and counts some periods and some sections; a trip has
-- the sums. A round is a closed trip with at least as many periods as sections.
use Rattle.std.proofs.lemmas.Bool.Decides.{nat_tests}
use Rattle.std.proofs.Common.{◌≡◌, ℕ, zero, ◌+◌, ◌≤◌, arith}

-- a relation between events
abbrev pub Links : Type 1
Links = ℕ → ℕ → Type 0

-- relays: `r i j a b` leads from a to b and counts i periods and j sections
abbrev pub Relays : Type 1
Relays = ℕ → ℕ → Links

-- a trip with p periods and q sections
pub data Trip (hop : Links) (r : Relays) : ℕ → ℕ → ℕ → ℕ → Type 0 where
  last : {a b : ℕ} → hop a b → Trip hop r zero zero a b
  via : {i j m n p q a b c d : ℕ} → hop a b → r i j b c → Trip hop r m n c d → p ≡ i + m → q ≡ j + n → Trip hop r p q a d

-- a trip that a relay closes, with no more sections than periods
pub data Round (hop : Links) (r : Relays) : Type 0 where
  round : {i j p q a b : ℕ} → r i j a b → Trip hop r p q b a → j + q ≤ i + p → Round hop r

-- a trip goes on where its last hop can
pub extend : {hop : Links} {r : Relays} {p q i j a b c : ℕ} → Trip hop r p q a b → ((v : ℕ) → hop v b → Trip hop r i j v c) → Trip hop r (p + i) (q + j) a c
extend {hop} {r} {a = a} {c = c} (last h) k = grind (arith, nat_tests)
extend (via h e t u v) k = via h e (extend t k) (omega arith) (omega arith)

-- more relays, more trips
abbrev pub Among : Relays → Relays → Type 0
Among r s = (i j a b : ℕ) → r i j a b → s i j a b

pub trip_mono : {hop : Links} {r s : Relays} {p q a b : ℕ} → Among r s → Trip hop r p q a b → Trip hop s p q a b
trip_mono m (last h) = last h
trip_mono m (via h e t u v) = via h (m _ _ _ _ e) (trip_mono m t) u v

pub round_mono : {hop : Links} {r s : Relays} → Among r s → Round hop r → Round hop s
round_mono m (round e t le) = round (m _ _ _ _ e) (trip_mono m t) le
