-- Walks as trips whose hops are links and whose relays are periods and sections; and so rounds of Rcu are short.
use Rattle.std.proofs.Common.{◌≡◌, ℕ, ◌+◌, ◌≤◌, refl, subst, subst₂, arith}
use Rattle.relations.specs.Algebra.{Rel}
use Rattle.grace.specs.Scene.{Scene, Sound, gp, rscs, link}
use Rattle.grace.specs.Law.{Walk, Walk.here, Walk.by_period, Walk.by_section, Rcu}
use Rattle.grace.specs.Rounds.{RcuRound, ShortRoundLaw}
use Rattle.grace.proofs.Closure.{On, seq_parts, seq_from}
use Rattle.grace.proofs.Trips.{Trip, Trip.last, Trip.via, Round, Round.round}
use Rattle.grace.proofs.Short.{Short, Short.short, short_round}
use Rattle.grace.proofs.Rules.{link_starts, link_ends}

-- a period or a section
pub data Node (x : Scene) : ℕ → ℕ → ℕ → ℕ → Type 0 where
  up : {a b : ℕ} → On (gp x) a b → Node x 1 0 a b
  down : {a b : ℕ} → On (rscs x) a b → Node x 0 1 a b

pub node_light : (x : Scene) (i j a b : ℕ) → Node x i j a b → i + j ≤ 1
node_light x i j a b (up e) = omega arith
node_light x i j a b (down e) = omega arith

node_one : (x : Scene) {i j a b : ℕ} → Node x i j a b → 1 ≤ i + j
node_one x (up e) = omega arith
node_one x (down e) = omega arith

module _ (x : Scene) (sound : Sound x) (f : Rel) where
  -- a link and a walk are a trip
  pub lead_trip : {p q a b c : ℕ} → On (link x f) a b → Walk x f p q b c → Trip (On (link x f)) (Node x) p q a c
  lead_trip h here = last h
  lead_trip h (by_period s t) = let m = seq_parts _ _ s in via h (up m.2) (lead_trip m.3 t) (omega arith) (omega arith)
  lead_trip h (by_section s t) = let m = seq_parts _ _ s in via h (down m.2) (lead_trip m.3 t) (omega arith) (omega arith)

  pub data Lead : ℕ → ℕ → ℕ → ℕ → Type 0 where
    lead : {p q a b c : ℕ} → On (link x f) a b → Walk x f p q b c → Lead p q a c

  node_walk : {i j k m p q a b c : ℕ} → Node x i j a b → p ≡ i + k → q ≡ j + m → Lead k m b c → Walk x f p q a c
  node_walk {a = a} {c = c} (up e) u v (lead h t) =
      subst₂ (λ p q. Walk x f p q a c) (omega arith) (omega arith) (by_period (seq_from _ _ (link_starts x sound f _ _ h) e h) t)
  node_walk {a = a} {c = c} (down e) u v (lead h t) =
      subst₂ (λ p q. Walk x f p q a c) (omega arith) (omega arith) (by_section (seq_from _ _ (link_starts x sound f _ _ h) e h) t)

  pub trip_lead : {p q a b : ℕ} → Trip (On (link x f)) (Node x) p q a b → Lead p q a b
  trip_lead (last h) = lead h here
  trip_lead (via h e t u v) = lead h (node_walk e u v (trip_lead t))

  walk_round : {p q a b : ℕ} → Walk x f p q a b → b ≡ a → 1 ≤ p + q → q ≤ p → Round (On (link x f)) (Node x)
  walk_round here e some le = absurd (omega arith)
  walk_round (by_period {p} {q} {b = b} s t) e some le =
      let m = seq_parts _ _ s in round (up m.2) (lead_trip m.3 (subst (λ c. Walk x f p q b c) e t)) (omega arith)
  walk_round (by_section {p} {q} {b = b} s t) e some le =
      let m = seq_parts _ _ s in round (down m.2) (lead_trip m.3 (subst (λ c. Walk x f p q b c) e t)) (omega arith)

  short_walk : Short (On (link x f)) (Node x) x.count (link_ends x sound f) (node_light x) → (r : RcuRound x f) × (r.periods + r.sections ≤ x.count)
  short_walk (short {i} {j} {p} {q} {a} e t le few) =
      (record { event = a; periods = i + p; sections = j + q; walked = node_walk e refl refl (trip_lead t); some = omega (arith, node_one x e); enough = le }, omega arith)

  -- Rcu says that such trips have no round
  pub rcu_calm : Rcu x f → Round (On (link x f)) (Node x) → ⊥
  rcu_calm rcu (round e t le) = rcu _ _ _ (node_walk e refl refl (trip_lead t)) (omega (arith, node_one x e)) le

  pub calm_rcu : (Round (On (link x f)) (Node x) → ⊥) → Rcu x f
  calm_rcu calm p q a t some le = calm (walk_round t refl some le)

pub short_round_law : ShortRoundLaw
short_round_law x sound f r =
    short_walk x sound f (short_round (On (link x f)) (Node x) x.count (link_ends x sound f) (node_light x)
    (walk_round x sound f r.walked refl r.some r.enough))
