-- Law to rule: where the fences order each section and each period and no fence is closed by a link, there is no round.
use Rattle.std.proofs.lemmas.Bool.Decides.{nat_tests}
use Rattle.std.proofs.Common.{◌≡◌, ℕ, zero, suc, ◌+◌, ◌≤◌, ◌⊎◌, arith}
use Rattle.grace.proofs.Trips.{Links, Trip, Trip.last, Trip.via, Round, Round.round}
use Rattle.grace.proofs.Grounds.{Ground, Period, Section, Relay, Relay.fence, Relay.period, Relay.section}

-- hops with fences between them
pub data Link (g : Ground) (f : Links) : ℕ → ℕ → Type 0 where
  end : {a b : ℕ} → g.hop a b → Link g f a b
  more : {a b c d : ℕ} → g.hop a b → f b c → Link g f c d → Link g f a d

join : {g : Ground} {f : Links} {a b c d : ℕ} → Link g f a b → f b c → Link g f c d → Link g f a d
join (end h) e l = more h e l
join (more h e k) e' l = more h e (join k e' l)

-- k steps of one kind, with a link before, between and after them
data Run (g : Ground) (f step : Links) : ℕ → ℕ → ℕ → Type 0 where
  none : {a b : ℕ} → Link g f a b → Run g f step zero a b
  then : {k a b c d : ℕ} → Link g f a b → step b c → Run g f step k c d → Run g f step (suc k) a d

-- what is left of a trip when unlike neighbours are cancelled
data Left (g : Ground) (f : Links) : ℕ → ℕ → ℕ → ℕ → Type 0 where
  periods : {k p q a b : ℕ} → p ≡ k + q → Run g f (Period g) k a b → Left g f p q a b
  sections : {k p q a b : ℕ} → q ≡ k + p → Run g f (Section g) k a b → Left g f p q a b

module _ (g : Ground) (f : Links)
    (ordered : (l s a b c d : ℕ) → g.period_in s a → g.period_out s b → g.section_in l c → g.section_out l d → f c b ⊎ f a d)
    (fences : (a b : ℕ) → Period g a b → f a b)
    (free : (a b : ℕ) → f a b → Link g f b a → ⊥) where
  absorb : {step : Links} {k a b c d : ℕ} → g.hop a b → f b c → Run g f step k c d → Run g f step k a d
  absorb h e (none l) = none (more h e l)
  absorb h e (then l s r) = then (more h e l) s r

  -- periods are fences too, so a run of them is a link
  collapse : {k a b : ℕ} → Run g f (Period g) k a b → Link g f a b
  collapse (none l) = l
  collapse (then l s r) = join l (fences _ _ s) (collapse r)

  period_section : {a b c d : ℕ} → Period g a b → Link g f b c → Section g c d → f a d
  period_section {a} {b} {c} {d} e l k = grind (arith, nat_tests)

  section_period : {a b c d : ℕ} → Section g a b → Link g f b c → Period g c d → f a d
  section_period {a} {b} {c} {d} e l k = grind (arith, nat_tests)

  left_fence : {m n p q a b c d : ℕ} → g.hop a b → f b c → p ≡ 0 + m → q ≡ 0 + n → Left g f m n c d → Left g f p q a d
  left_fence h e u v (periods {k} m r) = periods {k = k} (omega arith) (absorb h e r)
  left_fence h e u v (sections {k} m r) = sections {k = k} (omega arith) (absorb h e r)

  left_period : {m n p q a b c d : ℕ} → g.hop a b → Period g b c → p ≡ 1 + m → q ≡ 0 + n → Left g f m n c d → Left g f p q a d
  left_period h e u v (periods {k} m r) = periods {k = suc k} (omega arith) (then (end h) e r)
  left_period h e u v (sections m (none l)) = periods {k = 1} (omega arith) (then (end h) e (none l))
  left_period h e u v (sections m (then {k} l s r)) = sections {k = k} (omega arith) (absorb h (period_section e l s) r)

  left_section : {m n p q a b c d : ℕ} → g.hop a b → Section g b c → p ≡ 0 + m → q ≡ 1 + n → Left g f m n c d → Left g f p q a d
  left_section h e u v (sections {k} m r) = sections {k = suc k} (omega arith) (then (end h) e r)
  left_section h e u v (periods m (none l)) = sections {k = 1} (omega arith) (then (end h) e (none l))
  left_section h e u v (periods m (then {k} l s r)) = periods {k = k} (omega arith) (absorb h (section_period e l s) r)

  left : {p q a b : ℕ} → Trip g.hop (Relay g f) p q a b → Left g f p q a b
  left (last h) = periods {k = 0} (omega arith) (none (end h))
  left (via h (fence e) t u v) = left_fence h e u v (left t)
  left (via h (period e) t u v) = left_period h e u v (left t)
  left (via h (section e) t u v) = left_section h e u v (left t)

  fence_round : {p q a b : ℕ} → f a b → 0 + q ≤ 0 + p → Left g f p q b a → ⊥
  fence_round e le (periods m r) = free _ _ e (collapse r)
  fence_round e le (sections m (none l)) = free _ _ e l
  fence_round e le (sections m (then l s r)) = omega arith

  period_round : {p q a b : ℕ} → Period g a b → 0 + q ≤ 1 + p → Left g f p q b a → ⊥
  period_round e le (periods m r) = free _ _ (fences _ _ e) (collapse r)
  period_round e le (sections m (none l)) = free _ _ (fences _ _ e) l
  period_round e le (sections m (then l s (none l'))) = free _ _ (period_section e l s) l'
  period_round e le (sections m (then l s (then l' s' r))) = omega arith

  section_round : {p q a b : ℕ} → Section g a b → 1 + q ≤ 0 + p → Left g f p q b a → ⊥
  section_round e le (periods m (none l)) = omega arith
  section_round e le (periods m (then l s r)) = free _ _ (section_period e l s) (collapse r)
  section_round e le (sections m r) = omega arith

  pub no_round : Round g.hop (Relay g f) → ⊥
  no_round (round (fence e) t le) = fence_round e le (left t)
  no_round (round (period e) t le) = period_round e le (left t)
  no_round (round (section e) t le) = section_round e le (left t)
