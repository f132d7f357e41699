-- Trips over fences, periods and sections.
use Rattle.std.proofs.Common.{ℕ, ◌⊎◌, refl, inl, inr, arith}
use Rattle.grace.proofs.Trips.{Links, Trip.via, Round, Round.round, extend, Among, trip_mono, round_mono}
use Rattle.grace.proofs.Cuts.{With, Back, Back.back, way_back}

-- hops, and for each period and each section the events that it is entered from and left to
pub record Ground : Type 1 where
  pub hop : Links
  pub period_in : Links
  pub period_out : Links
  pub section_in : Links
  pub section_out : Links

-- through a period, through a section
abbrev pub Period : Ground → Links
Period g a b = (s : ℕ) × g.period_in s a × g.period_out s b

abbrev pub Section : Ground → Links
Section g a b = (l : ℕ) × g.section_in l a × g.section_out l b

-- the relays with the fences f
pub data Relay (g : Ground) (f : Links) : ℕ → ℕ → ℕ → ℕ → Type 0 where
  fence : {a b : ℕ} → f a b → Relay g f 0 0 a b
  period : {a b : ℕ} → Period g a b → Relay g f 1 0 a b
  section : {a b : ℕ} → Section g a b → Relay g f 0 1 a b

-- no round over the fences f
abbrev pub Clear : Ground → Links → Type 0
Clear g f = Round g.hop (Relay g f) → ⊥

pub relay_mono : {g : Ground} {f h : Links} → ((a b : ℕ) → f a b → h a b) → Among (Relay g f) (Relay g h)
relay_mono m i j a b (fence e) = fence (m a b e)
relay_mono m i j a b (period e) = period e
relay_mono m i j a b (section e) = section e

pub clear_mono : {g : Ground} {f h : Links} → ((a b : ℕ) → f a b → h a b) → Clear g h → Clear g f
clear_mono m clear t = clear (round_mono (relay_mono m) t)

-- ---- fences from each event of `into` to each of `out` besides

abbrev pub Fenced : Links → (ℕ → Type 0) → (ℕ → Type 0) → Links
Fenced f into out a b = f a b ⊎ (into a × out b)

module _ (g : Ground) (f : Links) (into out : ℕ → Type 0) where
  fenced_with : Among (Relay g (Fenced f into out)) (With (Relay g f) into out 0 0)
  fenced_with i j a b (fence (inl e)) = inl (fence e)
  fenced_with i j a b (fence (inr e)) = inr (refl, refl, e.0, e.1)
  fenced_with i j a b (period e) = inl (period e)
  fenced_with i j a b (section e) = inl (section e)

  -- they make a round exactly where a trip with no more sections than periods leads back
  pub fenced_back : Clear g f → Round g.hop (Relay g (Fenced f into out)) → Back g.hop (Relay g f) into out 0 0
  fenced_back clear t = way_back g.hop (Relay g f) into out 0 0 clear (round_mono fenced_with t)

  pub back_fenced : Back g.hop (Relay g f) into out 0 0 → Round g.hop (Relay g (Fenced f into out))
  back_fenced (back o i t le) = round (fence (inr (i, o))) (trip_mono (relay_mono (λ a b. inl)) t) le

module _ (g : Ground) (f : Links) (l s : ℕ) where
  two_backs : Back g.hop (Relay g f) (g.section_in l) (g.period_out s) 0 0 → Back g.hop (Relay g f) (g.period_in s) (g.section_out l) 0 0
      → Round g.hop (Relay g f)
  two_backs (back o i t le) (back o' i' t' le') = round (period (s, i', o)) (extend t (λ v h. via h (section (l, i, o')) t' refl refl)) (omega arith)

  -- of the two orders of a section and a period one makes no round
  pub one_order : Clear g f → Round g.hop (Relay g (Fenced f (g.section_in l) (g.period_out s)))
      → Round g.hop (Relay g (Fenced f (g.period_in s) (g.section_out l))) → ⊥
  one_order clear t t' = clear (two_backs (fenced_back g f _ _ clear t) (fenced_back g f _ _ clear t'))
