-- Pb and Rcu are kept exactly when there is no round.
use Rattle.std.proofs.lemmas.Bool.Decides.{nat_tests}
use Rattle.std.proofs.Common.{◌≡◌, ℕ, suc, ◌+◌, ◌<◌, ◌≤◌, true, ◌⊎◌, sym, refl, subst, subst₂, inl, inr, ⊎_elim, arith}
use Rattle.std.proofs.lemmas.Bool.{and_from, and_parts}
use Rattle.rows.proofs.Any.{any_some, any_from}
use Rattle.relations.specs.Algebra.{Rel, seq, to, inverse, star}
use Rattle.relations.specs.Chains.{Chain, Chain.one, Chain.step, Acyclic}
use Rattle.relations.proofs.Closure.{chain_append, chain_ends}
use Rattle.relations.proofs.Ranges.{on_more}
use Rattle.grace.specs.Scene.{Scene, Sound, Within, gp, rscs, pb, link}
use Rattle.grace.specs.Law.{Walk, Walk.here, Walk.by_period, Walk.by_section, Rcu, Kept, before_unlock, from_on}
use Rattle.grace.proofs.Closure.{On, seq_parts, seq_from, starts_from, star_cases, star_here, star_chain, star_within}
use Rattle.grace.proofs.Trips.{Links, Trip, Trip.last, Trip.via, Round, Round.round}
use Rattle.grace.proofs.Grounds.{Ground, Period, Section, Relay, Relay.fence, Relay.period, Relay.section, Clear}
use Rattle.grace.proofs.Cancel.{Link, Link.end, Link.more}

-- hb*
abbrev pub Hb : Scene → Links
Hb x = On (star x.count x.hb)

-- the trips of a scene: a hop is hb* and then prop
abbrev pub ground : Scene → Ground
ground x = record {
  hop = λ a b. (c : ℕ) × Hb x a c × On x.prop c b;
  period_in = λ s a. On x.po a s × (x.period s ≡ true);
  period_out = λ s b. from_on x s b ≡ true;
  section_in = λ l a. before_unlock x l a ≡ true;
  section_out = λ l b. from_on x l b ≡ true;
}

module _ (x : Scene) (sound : Sound x) where
  -- what is on the events of the scene is on the first 64
  few : {r : Rel} → Within x.count r → Within 64 r
  few {r} on = on_more x.count 64 r sound.few on

  pub hb_small : Within 64 x.hb
  hb_small = few sound.hb_within

  hbs_small : Within 64 (star x.count x.hb)
  hbs_small = few (star_within x.count x.hb sound.hb_within)

  -- ---- periods and sections

  pub period_known : (s : ℕ) → x.period s ≡ true → s < 64
  period_known s e = grind (arith, nat_tests)

  pub lock_known : (l u : ℕ) → On x.crit l u → l < 64
  lock_known l u e = (few sound.crit_within l u e).0

  pub section_known : (l a : ℕ) → before_unlock x l a ≡ true → l < 64
  unfolding before_unlock
  section_known l a e = grind (arith, nat_tests, any_some, lock_known)

  pub gp_period : (a b : ℕ) → On (gp x) a b → Period (ground x) a b
  unfolding gp to from_on
  gp_period a b e = grind (arith, nat_tests, seq_parts)

  pub period_gp : (a b : ℕ) → Period (ground x) a b → On (gp x) a b
  unfolding gp to from_on
  period_gp a b e =
      seq_from _ _ (period_known e.0 e.1.1)
      (and_from _ _ e.1.0 e.1.1) e.2

  pub rscs_section : (a b : ℕ) → On (rscs x) a b → Section (ground x) a b
  unfolding rscs inverse from_on before_unlock
  rscs_section a b e =
      let h = seq_parts _ _ e in
      let k = seq_parts _ _ h.3 in
      (k.0, any_from 64 h.0 _ h.1 (and_from _ _ h.2 k.2), k.3)

  pub section_rscs : (a b : ℕ) → Section (ground x) a b → On (rscs x) a b
  unfolding rscs inverse from_on before_unlock
  section_rscs a b e =
      let h = any_some 64 _ e.1 in
      let k = and_parts _ _ h.2 in
      seq_from _ _ h.1 k.0
      (seq_from _ _ (lock_known e.0 h.0 k.1) k.1 e.2)

  module _ (f : Rel) where
    -- ---- pb and link, part by part

    pub pb_parts : (a b : ℕ) → On (pb x f) a b → (c : ℕ) × (d : ℕ) × On x.prop a c × On f c d × Hb x d b
    unfolding pb
    pb_parts a b e = grind (arith, nat_tests, seq_parts)

    pub pb_from : (a b c d : ℕ) → On x.prop a c → On f c d → Hb x d b → On (pb x f) a b
    unfolding pb
    pb_from a b c d e h k =
        seq_from _ _ (few sound.prop_within a c e).1 e (seq_from _ _ (hbs_small d b k).0 h k)

    pub pb_small : Within 64 (pb x f)
    pb_small a b e = grind (arith, nat_tests, pb_parts, few, hbs_small)

    -- link: hb* to c, pb* on to d, prop from there
    data Way : ℕ → ℕ → Type 0 where
      way : {a b c d : ℕ} → Hb x a c → (c ≡ d) ⊎ Chain (pb x f) c d → On x.prop d b → Way a b

    link_way : (a b : ℕ) → On (link x f) a b → Way a b
    unfolding link
    link_way a b e =
        let h = seq_parts _ _ e in
        let k = seq_parts _ _ h.3 in
        way h.2 (⊎_elim (λ m. inl m.0) inr (star_cases x.count (pb x f) k.2)) k.3

    way_starts : {a b : ℕ} → Way a b → a < 64
    way_starts (way h s p) = (hbs_small _ _ h).0

    pub link_starts : (a b : ℕ) → On (link x f) a b → a < 64
    link_starts a b e = way_starts (link_way a b e)

    pub link_ends : (a b : ℕ) → On (link x f) a b → b < x.count
    link_ends a b e = by (link_way a b e)
      where
        by : Way a b → b < x.count
        by (way h s p) = (sound.prop_within _ _ p).1

    link_from : (a b c d : ℕ) → Hb x a c → c < 64 → On (star x.count (pb x f)) c d → On x.prop d b → On (link x f) a b
    unfolding link
    link_from a b c d h l s p =
        seq_from _ _ l h
        (seq_from _ _ (few sound.prop_within d b p).0 s p)

    way_link : {a b : ℕ} → Way a b → On (link x f) a b
    way_link (way {c} {d} h (inl e) p) =
        let l : c < x.count = subst (λ k. k < x.count) (sym e) (sound.prop_within d _ p).0 in
        link_from _ _ c d h (omega (arith, l, sound.few)) (star_here x.count (pb x f) e l) p
    way_link (way {c} {d} h (inr s) p) = link_from _ _ c d h (chain_ends 64 (pb x f) pb_small s).0 (star_chain x.count (pb x f) (starts_from _ pb_small) s) p

    -- ---- from trips to walks

    -- one pb step back from c, over a hop's prop and the fence after it
    way_more : {a b c d : ℕ} → (ground x).hop a b → On f b c → Way c d → Way a d
    way_more {a} {b} {c} h e (way {c = k} g (inl s) p) = way h.1 (inr (one (subst (λ m. On (pb x f) h.0 m) s (pb_from h.0 k b c h.2 e g)))) p
    way_more {a} {b} {c} h e (way {c = k} g (inr s) p) = way h.1 (inr (step (pb_from h.0 k b c h.2 e g) s)) p

    way_hop : {a b : ℕ} → (ground x).hop a b → Way a b
    way_hop h = way h.1 (inl refl) h.2

    way_join : {a b c d : ℕ} → Way a b → On f b c → Way c d → Way a d
    way_join {a} {b} {c} (way {d = m} h (inl s) p) e w = way_more (m, subst (λ k. Hb x a k) s h, p) e w
    way_join {b = b} {c} (way {d = m} h (inr s) p) e (way {c = k} g (inl s') p') = way h (inr (chain_append s (one (subst (λ n. On (pb x f) m n) s' (pb_from m k b c p e g))))) p'
    way_join {b = b} {c} (way {d = m} h (inr s) p) e (way {c = k} g (inr s') p') = way h (inr (chain_append s (step (pb_from m k b c p e g) s'))) p'

    pub hop_link : (a b : ℕ) → (ground x).hop a b → On (link x f) a b
    hop_link a b h = way_link (way_hop h)

    pub link_more : (a b c d : ℕ) → (ground x).hop a b → On f b c → On (link x f) c d → On (link x f) a d
    link_more a b c d h e k = way_link (way_more h e (link_way c d k))

    -- a fence closed by a link is a cycle of pb
    way_cycle : {a b : ℕ} → Acyclic (pb x f) → On f a b → Way b a → ⊥
    way_cycle {a} {b} no_cycle e (way {c} {d} h (inl s) p) = no_cycle d (one (subst (λ n. On (pb x f) d n) s (pb_from d c a b p e h)))
    way_cycle {a} {b} no_cycle e (way {c} {d} h (inr s) p) = no_cycle d (step (pb_from d c a b p e h) s)

    pub link_free : Acyclic (pb x f) → (a b : ℕ) → On f a b → Link (ground x) (On f) b a → ⊥
    link_free no_cycle a b e l = way_cycle no_cycle e (link_way' l)
      where
        link_way' : {a b : ℕ} → Link (ground x) (On f) a b → Way a b
        link_way' (end h) = way_hop h
        link_way' (more h k l) = way_more h k (link_way' l)

    period_step : {a b c : ℕ} → Period (ground x) a b → Way b c → On (seq (gp x) (link x f)) a c
    period_step e w = seq_from _ _ (way_starts w) (period_gp _ _ e) (way_link w)

    section_step : (a : ℕ) {b c : ℕ} → Section (ground x) a b → Way b c → On (seq (rscs x) (link x f)) a c
    section_step a e w = seq_from _ _ (way_starts w) (section_rscs _ _ e) (way_link w)

    -- a link, then a walk
    data Onward : ℕ → ℕ → ℕ → ℕ → Type 0 where
      onward : {p q a b c : ℕ} → Way a b → Walk x f p q b c → Onward p q a c

    counted : {m n p q a b : ℕ} → m ≡ p → n ≡ q → Onward m n a b → Onward p q a b
    counted {a = a} {b} u v t = subst₂ (λ p q. Onward p q a b) u v t

    onward_fence : {p q a b c d : ℕ} → (ground x).hop a b → On f b c → Onward p q c d → Onward p q a d
    onward_fence h e (onward w t) = onward (way_more h e w) t

    onward_period : {p q a b c d : ℕ} → Way a b → Period (ground x) b c → Onward p q c d → Onward (suc p) q a d
    onward_period v e (onward w t) = onward v (by_period (period_step e w) t)

    onward_section : {p q a b c d : ℕ} → Way a b → Section (ground x) b c → Onward p q c d → Onward p (suc q) a d
    onward_section v e (onward w t) = onward v (by_section (section_step _ e w) t)

    -- a trip over the scene's relays
    abbrev pub Tour : ℕ → ℕ → ℕ → ℕ → Type 0
    Tour = Trip (ground x).hop (Relay (ground x) (On f))

    tour_onward : {p q a b : ℕ} → Tour p q a b → Onward p q a b
    tour_onward (last h) = onward (way_hop h) here
    tour_onward (via h (fence e) t u v) = counted (omega arith) (omega arith) (onward_fence h e (tour_onward t))
    tour_onward (via h (period e) t u v) = counted (omega arith) (omega arith) (onward_period (way_hop h) e (tour_onward t))
    tour_onward (via h (section e) t u v) = counted (omega arith) (omega arith) (onward_section (way_hop h) e (tour_onward t))

    -- a step of a walk, part by part
    period_parts : (a c : ℕ) → On (seq (gp x) (link x f)) a c → (b : ℕ) × Period (ground x) a b × Way b c
    period_parts a c e = grind (arith, nat_tests, seq_parts, gp_period, link_way)

    section_parts : (a c : ℕ) → On (seq (rscs x) (link x f)) a c → (b : ℕ) × Section (ground x) a b × Way b c
    section_parts a c e = grind (arith, nat_tests, seq_parts, rscs_section, link_way)

    -- the last link of a walk takes a fence and a link more
    lengthen : {p q a b c d e : ℕ} → Way a b → Walk x f p q b c → On f c d → Way d e → Onward p q a e
    lengthen w here k v = onward (way_join w k v) here
    lengthen w (by_period s t) k v = let h = period_parts _ _ s in onward_period w h.1 (lengthen h.2 t k v)
    lengthen w (by_section s t) k v = let h = section_parts _ _ s in onward_section w h.1 (lengthen h.2 t k v)

    -- a walk that a link and a period or a section close
    close_period : {p q a b : ℕ} → Rcu x f → Period (ground x) a b → q ≤ suc p → Onward p q b a → ⊥
    close_period rcu e le (onward w t) = rcu _ _ _ (by_period (period_step e w) t) (omega arith) le

    close_section : {p q a b : ℕ} → Rcu x f → Section (ground x) a b → suc q ≤ p → Onward p q b a → ⊥
    close_section rcu e le (onward w t) = rcu _ _ _ (by_section (section_step _ e w) t) (omega arith) le

    -- one that a fence closes: it begins anew at its first period or section, or has none
    close_fence : {p q a b : ℕ} → Kept x f → On f a b → q ≤ p → Onward p q b a → ⊥
    close_fence kept e le (onward w here) = way_cycle kept.0 e w
    close_fence kept e le (onward w (by_period s t)) = let h = period_parts _ _ s in close_period kept.1 h.1 le (lengthen h.2 t e w)
    close_fence kept e le (onward w (by_section s t)) = let h = section_parts _ _ s in close_section kept.1 h.1 le (lengthen h.2 t e w)

    pub kept_clear : Kept x f → Clear (ground x) (On f)
    kept_clear kept (round (fence e) t le) = close_fence kept e (omega arith) (tour_onward t)
    kept_clear kept (round (period e) t le) = close_period kept.1 e (omega arith) (tour_onward t)
    kept_clear kept (round (section e) t le) = close_section kept.1 e (omega arith) (tour_onward t)

    -- ---- from walks to trips

    -- along a chain of pb, with hb* before it and prop after it, and on from the last hop
    chain_tour : {p q d e b c a : ℕ} → Hb x a b → Chain (pb x f) b c → On x.prop c d → ((v : ℕ) → (ground x).hop v d → Tour p q v e) → Tour p q a e
    chain_tour h (one s) p k = let m = pb_parts _ _ s in via (_, h, m.2) (fence m.3) (k m.1 (_, m.4, p)) (omega arith) (omega arith)
    chain_tour h (step s t) p k = let m = pb_parts _ _ s in via (_, h, m.2) (fence m.3) (chain_tour m.4 t p k) (omega arith) (omega arith)

    way_tour : {p q a b c : ℕ} → Way a b → ((v : ℕ) → (ground x).hop v b → Tour p q v c) → Tour p q a c
    way_tour {a = a} (way h (inl e) p) k = k a (_, subst (λ m. Hb x a m) e h, p)
    way_tour (way h (inr t) p) k = chain_tour h t p k

    walk_tour : {p q a b c : ℕ} → Way a b → Walk x f p q b c → Tour p q a c
    walk_tour w here = way_tour w (λ v h. last h)
    walk_tour w (by_period s t) = let m = period_parts _ _ s in way_tour w (λ v h. via h (period m.1) (walk_tour m.2 t) (omega arith) (omega arith))
    walk_tour w (by_section s t) = let m = section_parts _ _ s in way_tour w (λ v h. via h (section m.1) (walk_tour m.2 t) (omega arith) (omega arith))

    -- a trip is a link and a walk
    pub tour_lead : {p q a c : ℕ} → Tour p q a c → (b : ℕ) × On (link x f) a b × Walk x f p q b c
    tour_lead {p} {q} {a} {c} t = grind (arith, nat_tests, tour_onward, way_link)

    pub lead_tour : {p q : ℕ} (a : ℕ) {b c : ℕ} → On (link x f) a b → Walk x f p q b c → Tour p q a c
    lead_tour a e t = walk_tour (link_way a _ e) t

    clear_acyclic : Clear (ground x) (On f) → Acyclic (pb x f)
    clear_acyclic clear a t = by t
      where
        by : Chain (pb x f) a a → ⊥
        by (one s) = let m = pb_parts a a s in clear (round (fence m.3) (last (a, m.4, m.2)) (omega arith))
        by (step s t) = let m = pb_parts a _ s in clear (round (fence m.3) (chain_tour m.4 t m.2 (λ v h. last h)) (omega arith))

    closed_round : {p q a b : ℕ} → Walk x f p q a b → b ≡ a → 1 ≤ p + q → q ≤ p → Round (ground x).hop (Relay (ground x) (On f))
    closed_round here e some le = absurd (omega arith)
    closed_round (by_period {p} {q} {b = b} s t) e some le =
        let m = period_parts _ _ s in round (period m.1) (walk_tour m.2 (subst (λ c. Walk x f p q b c) e t)) (omega arith)
    closed_round (by_section {p} {q} {b = b} s t) e some le =
        let m = section_parts _ _ s in round (section m.1) (walk_tour m.2 (subst (λ c. Walk x f p q b c) e t)) (omega arith)

    pub clear_kept : Clear (ground x) (On f) → Kept x f
    clear_kept clear = (clear_acyclic clear, λ p q a t some le. clear (closed_round t refl some le))
