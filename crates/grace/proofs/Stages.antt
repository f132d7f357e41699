-- The relays of a scene, added one at a time, and the sheets that go with them.
use Rattle.std.proofs.lemmas.Bool.Decides.{nat_tests}
use Rattle.std.proofs.Common.{◌≡◌, ℕ, zero, suc, ◌+◌, ◌<◌, ◌≤◌, true, false, sym, refl, ◌∙◌, subst, subst₂, inl, inr, ⊎_elim, true≢false, arith}
use Rattle.std.proofs.lemmas.Bool.{and_from, and_parts, or_from, or_parts, cases_Bool, cases_eq}
use Rattle.rows.proofs.Any.{any_some, any_false_at, any_clear}
use Rattle.relations.specs.Algebra.{Set}
use Rattle.grace.specs.Scene.{Scene, Sound, link}
use Rattle.grace.specs.Law.{Rcu, pair, before_unlock, from_on}
use Rattle.grace.specs.Sheet.{Sheet, Fits, relayed, turns}
use Rattle.grace.specs.Deciding.{before_period, link_sheet, period_sheet, section_sheet, rounds, row, behind, row_sheet}
use Rattle.grace.proofs.Closure.{On}
use Rattle.grace.proofs.Trips.{Links, Relays, Trip, Trip.last, Trip.via, Round, Round.round, Among, trip_mono, round_mono}
use Rattle.grace.proofs.Cuts.{With, Back, Back.back, way_back}
use Rattle.grace.proofs.Sheets.{In, Best, turns_round, round_turns, back_turns, best_fits, best_relayed}
use Rattle.grace.proofs.Walks.{Node, Node.up, Node.down, rcu_calm, calm_rcu}
use Rattle.grace.proofs.Rules.{period_known, section_known, gp_period, period_gp, rscs_section, section_rscs, link_starts, link_ends}

-- the periods below k, the sections with locks below l, the rows of the locks below t
pub data Stage (x : Scene) (k l t : ℕ) : ℕ → ℕ → ℕ → ℕ → Type 0 where
  period : {a b : ℕ} (s : ℕ) → s < k → In (before_period x s) a → In (from_on x s) b → Stage x k l t 1 0 a b
  section : {a b : ℕ} (c : ℕ) → c < l → In (before_unlock x c) a → In (from_on x c) b → Stage x k l t 0 1 a b
  rowed : {a b : ℕ} (c : ℕ) → c < t → In (before_unlock x c) a → In (behind x (row_sheet x c) c) b → Stage x k l t 0 0 a b

pub stage_light : (x : Scene) (k l t i j a b : ℕ) → Stage x k l t i j a b → i + j ≤ 1
stage_light x k l t i j a b (period s lt e f) = omega arith
stage_light x k l t i j a b (section s lt e f) = omega arith
stage_light x k l t i j a b (rowed s lt e f) = omega arith

pub stage_mono : (x : Scene) (k l t k' l' t' : ℕ) → k ≤ k' → l ≤ l' → t ≤ t' → Among (Stage x k l t) (Stage x k' l' t')
stage_mono x k l t k' l' t' u v w i j a b (period s lt e f) = period s (omega arith) e f
stage_mono x k l t k' l' t' u v w i j a b (section s lt e f) = section s (omega arith) e f
stage_mono x k l t k' l' t' u v w i j a b (rowed s lt e f) = rowed s (omega arith) e f

-- the best balances depend on the relays alone
best_among : (hop : Links) (r s : Relays) (m : Sheet) → Among r s → Among s r → Best hop r m → Best hop s m
best_among hop r s m f g best = record {
  bound = λ p q a b t. best.bound p q a b (trip_mono g t);
  met = λ a b le. let w = best.met a b le in (w.0, w.1, trip_mono f w.2, w.3);
}

module _ (x : Scene) (sound : Sound x) where
  abbrev pub Hop : Links
  Hop = On (link x x.strong)

  pub hop_within : (a b : ℕ) → Hop a b → (a < 64) × (b < 64)
  hop_within a b h = grind (arith, nat_tests, link_ends, link_starts)

  -- no round at a stage
  abbrev pub Calm : ℕ → ℕ → ℕ → Type 0
  Calm k l t = Round Hop (Stage x k l t) → ⊥

  -- one relay more
  module _ (r r' : Relays) (into out : Set) (i j : ℕ) (small : i + j ≤ 1) (light : (i j a b : ℕ) → r i j a b → i + j ≤ 1)
      (f : Among r' (With r (In into) (In out) i j)) (g : Among (With r (In into) (In out) i j) r') (m : Sheet) (best : Best Hop r m) where
    next_best : (Round Hop r' → ⊥) → Best Hop r' (relayed m into out i j)
    next_best clear =
        best_among Hop (With r (In into) (In out) i j) r' (relayed m into out i j) g f
        (best_relayed Hop hop_within r m best into out i j small light (λ t. clear (round_mono g t)))

    turn_broken : (Round Hop r' → ⊥) → turns m into out i j ≡ false
    turn_broken clear =
        ⊎_elim (λ e. absurd (clear (round_mono g (turns_round Hop hop_within r m best into out i j small e)))) (λ e. e) (cases_Bool (turns m into out i j))

    no_turn : (Round Hop r → ⊥) → turns m into out i j ≡ false → Round Hop r' → ⊥
    no_turn clear e t = true≢false (sym (round_turns Hop hop_within r m best into out i j small clear (round_mono f t)) ∙ e)

  -- ---- the three kinds of relays

  add_period : (k : ℕ) → Among (Stage x (suc k) 0 0) (With (Stage x k 0 0) (In (before_period x k)) (In (from_on x k)) 1 0)
  add_period k i j a b (period s lt e f) =
      ⊎_elim (λ h. inr (refl, refl, subst (λ s. In (before_period x s) a) h e, subst (λ s. In (from_on x s) b) h f)) (λ h. inl (period s (omega arith) e f)) (cases_eq s k)
  add_period k i j a b (section s lt e f) = absurd (omega arith)
  add_period k i j a b (rowed s lt e f) = absurd (omega arith)

  take_period : (k : ℕ) → Among (With (Stage x k 0 0) (In (before_period x k)) (In (from_on x k)) 1 0) (Stage x (suc k) 0 0)
  take_period k i j a b (inl e) = grind (arith, nat_tests, stage_mono)
  take_period k i j a b (inr e) = subst₂ (λ i j. Stage x (suc k) 0 0 i j a b) (sym e.0) (sym e.1) (period k (omega arith) e.2 e.3)

  add_section : (l : ℕ) → Among (Stage x 64 (suc l) 0) (With (Stage x 64 l 0) (In (before_unlock x l)) (In (from_on x l)) 0 1)
  add_section l i j a b (period s lt e f) = inl (period s lt e f)
  add_section l i j a b (section s lt e f) =
      ⊎_elim (λ h. inr (refl, refl, subst (λ s. In (before_unlock x s) a) h e, subst (λ s. In (from_on x s) b) h f)) (λ h. inl (section s (omega arith) e f)) (cases_eq s l)
  add_section l i j a b (rowed s lt e f) = absurd (omega arith)

  take_section : (l : ℕ) → Among (With (Stage x 64 l 0) (In (before_unlock x l)) (In (from_on x l)) 0 1) (Stage x 64 (suc l) 0)
  take_section l i j a b (inl e) = grind (arith, nat_tests, stage_mono)
  take_section l i j a b (inr e) = subst₂ (λ i j. Stage x 64 (suc l) 0 i j a b) (sym e.0) (sym e.1) (section l (omega arith) e.2 e.3)

  add_row : (t : ℕ) → Among (Stage x 64 64 (suc t)) (With (Stage x 64 64 t) (In (before_unlock x t)) (In (behind x (row_sheet x t) t)) 0 0)
  add_row t i j a b (period s lt e f) = inl (period s lt e f)
  add_row t i j a b (section s lt e f) = inl (section s lt e f)
  add_row t i j a b (rowed s lt e f) =
      ⊎_elim (λ h. inr (refl, refl, subst (λ s. In (before_unlock x s) a) h e, subst (λ s. In (behind x (row_sheet x s) s) b) h f)) (λ h. inl (rowed s (omega arith) e f))
      (cases_eq s t)

  take_row : (t : ℕ) → Among (With (Stage x 64 64 t) (In (before_unlock x t)) (In (behind x (row_sheet x t) t)) 0 0) (Stage x 64 64 (suc t))
  take_row t i j a b (inl e) = grind (arith, nat_tests, stage_mono)
  take_row t i j a b (inr e) = subst₂ (λ i j. Stage x 64 64 (suc t) i j a b) (sym e.0) (sym e.1) (rowed t (omega arith) e.2 e.3)

  -- ---- calm stages have the best balances, and nothing turns

  linked : (a b : ℕ) → Hop a b → link_sheet x a b ≡ 128
  unfolding link_sheet
  linked a b e = grind (arith, nat_tests)

  not_linked : (a b : ℕ) → link x x.strong a b ≡ false → link_sheet x a b ≡ 0
  unfolding link_sheet
  not_linked a b e = grind (arith, nat_tests)

  link_only : {p q a b : ℕ} → Trip Hop (Stage x 0 0 0) p q a b → (1 ≤ link_sheet x a b) × (p + 128 ≤ link_sheet x a b + q)
  link_only {a = a} {b} (last h) = let e = linked a b h in (omega arith, omega arith)
  link_only (via h (period s lt e f) t u v) = absurd (omega arith)
  link_only (via h (section s lt e f) t u v) = absurd (omega arith)
  link_only (via h (rowed s lt e f) t u v) = absurd (omega arith)

  best_link : Best Hop (Stage x 0 0 0) (link_sheet x)
  best_link = record {
    bound = λ p q a b t. link_only t;
    met = λ a b le. ⊎_elim (λ h. (0, 0, last h, omega (arith, linked a b h))) (λ h. absurd (omega (arith, not_linked a b h))) (cases_Bool (link x x.strong a b));
  }

  calm_none : Calm 0 0 0
  calm_none (round (period s lt e f) t le) = omega arith
  calm_none (round (section s lt e f) t le) = omega arith
  calm_none (round (rowed s lt e f) t le) = omega arith

  calm_mono : (k l t k' l' t' : ℕ) → k ≤ k' → l ≤ l' → t ≤ t' → Calm k' l' t' → Calm k l t
  calm_mono k l t k' l' t' u v w calm r = calm (round_mono (stage_mono x k l t k' l' t' u v w) r)

  best_periods : (k : ℕ) → Calm k 0 0 → Best Hop (Stage x k 0 0) (period_sheet x k)
  unfolding period_sheet
  best_periods zero calm = best_link
  best_periods (suc k) calm =
      next_best (Stage x k 0 0) (Stage x (suc k) 0 0) (before_period x k) (from_on x k) 1 0 (omega arith) (stage_light x k 0 0) (add_period k) (take_period k)
      (period_sheet x k) (best_periods k (calm_mono k 0 0 (suc k) 0 0 (omega arith) (omega arith) (omega arith) calm)) calm

  best_sections : (l : ℕ) → Calm 64 l 0 → Best Hop (Stage x 64 l 0) (section_sheet x l)
  unfolding section_sheet
  best_sections zero calm = best_periods 64 calm
  best_sections (suc l) calm =
      next_best (Stage x 64 l 0) (Stage x 64 (suc l) 0) (before_unlock x l) (from_on x l) 0 1 (omega arith) (stage_light x 64 l 0) (add_section l) (take_section l)
      (section_sheet x l) (best_sections l (calm_mono 64 l 0 64 (suc l) 0 (omega arith) (omega arith) (omega arith) calm)) calm

  pub best_rows : (t : ℕ) → Calm 64 64 t → Best Hop (Stage x 64 64 t) (row_sheet x t)
  unfolding row_sheet
  best_rows zero calm = best_sections 64 calm
  best_rows (suc t) calm =
      next_best (Stage x 64 64 t) (Stage x 64 64 (suc t)) (before_unlock x t) (behind x (row_sheet x t) t) 0 0 (omega arith) (stage_light x 64 64 t) (add_row t) (take_row t)
      (row_sheet x t) (best_rows t (calm_mono 64 64 t 64 64 (suc t) (omega arith) (omega arith) (omega arith) calm)) calm

  -- the entries of a calm stage fit a byte
  pub period_fits : (k : ℕ) → Calm k 0 0 → Fits (period_sheet x k)
  period_fits k calm = best_fits Hop hop_within (Stage x k 0 0) (period_sheet x k) (best_periods k calm) (stage_light x k 0 0) calm

  pub section_fits : (l : ℕ) → Calm 64 l 0 → Fits (section_sheet x l)
  section_fits l calm = best_fits Hop hop_within (Stage x 64 l 0) (section_sheet x l) (best_sections l calm) (stage_light x 64 l 0) calm

  pub row_fits : (t : ℕ) → Calm 64 64 t → Fits (row_sheet x t)
  row_fits t calm = best_fits Hop hop_within (Stage x 64 64 t) (row_sheet x t) (best_rows t calm) (stage_light x 64 64 t) calm

  -- ---- Rcu

  -- all periods and sections are the nodes of walks
  stage_node : Among (Stage x 64 64 0) (Node x)
  unfolding before_period
  stage_node i j a b (period s lt e f) = up (period_gp x sound a b (s, and_parts _ _ e, f))
  stage_node i j a b (section c lt e f) = down (section_rscs x sound a b (c, e, f))
  stage_node i j a b (rowed c lt e f) = absurd (omega arith)

  node_stage : Among (Node x) (Stage x 64 64 0)
  unfolding before_period
  node_stage i j a b (up e) =
      let m = gp_period x sound a b e in
      period m.0 (period_known x sound m.0 m.1.1) (and_from _ _ m.1.0 m.1.1) m.2
  node_stage i j a b (down e) = let m = rscs_section x sound a b e in section m.0 (section_known x sound m.0 a m.1) m.1 m.2

  calm_kept : Calm 64 64 0 → Rcu x x.strong
  calm_kept calm = calm_rcu x sound x.strong (λ r. calm (round_mono node_stage r))

  pub kept_calm : Rcu x x.strong → Calm 64 64 0
  kept_calm rcu r = rcu_calm x sound x.strong rcu (round_mono stage_node r)

  -- nothing turns: calm, stage by stage
  pub calm_periods : (k : ℕ) → ((s : ℕ) → s < k → turns (period_sheet x s) (before_period x s) (from_on x s) 1 0 ≡ false) → Calm k 0 0
  calm_periods zero still = calm_none
  calm_periods (suc k) still =
      let calm = calm_periods k (λ s lt. still s (omega arith)) in
      no_turn (Stage x k 0 0) (Stage x (suc k) 0 0) (before_period x k) (from_on x k) 1 0 (omega arith) (stage_light x k 0 0) (add_period k) (take_period k)
      (period_sheet x k) (best_periods k calm) calm (still k (omega arith))

  pub calm_sections : Calm 64 0 0 → (l : ℕ) → ((c : ℕ) → c < l → turns (section_sheet x c) (before_unlock x c) (from_on x c) 0 1 ≡ false) → Calm 64 l 0
  calm_sections first zero still = first
  calm_sections first (suc l) still =
      let calm = calm_sections first l (λ c lt. still c (omega arith)) in
      no_turn (Stage x 64 l 0) (Stage x 64 (suc l) 0) (before_unlock x l) (from_on x l) 0 1 (omega arith) (stage_light x 64 l 0) (add_section l) (take_section l)
      (section_sheet x l) (best_sections l calm) calm (still l (omega arith))

  -- calm: nothing turns
  period_still : Calm 64 64 0 → (s : ℕ) → s < 64 → turns (period_sheet x s) (before_period x s) (from_on x s) 1 0 ≡ false
  period_still calm s lt =
      turn_broken (Stage x s 0 0) (Stage x (suc s) 0 0) (before_period x s) (from_on x s) 1 0 (omega arith) (stage_light x s 0 0) (add_period s) (take_period s)
      (period_sheet x s) (best_periods s (calm_mono s 0 0 64 64 0 (omega arith) (omega arith) (omega arith) calm))
      (calm_mono (suc s) 0 0 64 64 0 (omega arith) (omega arith) (omega arith) calm)

  section_still : Calm 64 64 0 → (l : ℕ) → l < 64 → turns (section_sheet x l) (before_unlock x l) (from_on x l) 0 1 ≡ false
  section_still calm l lt =
      turn_broken (Stage x 64 l 0) (Stage x 64 (suc l) 0) (before_unlock x l) (from_on x l) 0 1 (omega arith) (stage_light x 64 l 0) (add_section l) (take_section l)
      (section_sheet x l) (best_sections l (calm_mono 64 l 0 64 64 0 (omega arith) (omega arith) (omega arith) calm))
      (calm_mono 64 (suc l) 0 64 64 0 (omega arith) (omega arith) (omega arith) calm)

  pub rounds_none : rounds x ≡ false → Rcu x x.strong
  unfolding rounds
  rounds_none e =
      let h = or_parts _ _ e in
      calm_kept
      (calm_sections (calm_periods 64 (any_false_at 64 _ h.0)) 64
      (any_false_at 64 _ h.1))

  pub none_rounds : Rcu x x.strong → rounds x ≡ false
  unfolding rounds
  none_rounds rcu =
      or_from _ _
      (any_clear _ 64 (period_still (kept_calm rcu)))
      (any_clear _ 64 (section_still (kept_calm rcu)))

  -- ---- the rows

  pub behind_some : (m : Sheet) (l b : ℕ) → behind x m l b ≡ true → (s : ℕ) × (row x m l s ≡ true) × (from_on x s b ≡ true)
  unfolding behind
  behind_some m l b e = grind (arith, nat_tests, any_some)

  pub row_parts : (m : Sheet) (l s : ℕ) → row x m l s ≡ true → On (pair x) l s × (turns m (before_unlock x l) (from_on x s) 0 0 ≡ false)
  unfolding row
  row_parts m l s e = grind (arith, nat_tests)

  pub calm_rows : Calm 64 64 0 → (t : ℕ) → Calm 64 64 t
  calm_rows calm zero = calm
  calm_rows calm (suc t) = λ r.
      next_calm (calm_rows calm t) (way_back Hop (Stage x 64 64 t) (In (before_unlock x t)) (In (behind x (row_sheet x t) t)) 0 0 (calm_rows calm t) (round_mono (add_row t) r))
    where
      next_calm : Calm 64 64 t → Back Hop (Stage x 64 64 t) (In (before_unlock x t)) (In (behind x (row_sheet x t) t)) 0 0 → ⊥
      next_calm now (back {a = a} o y w le) =
          let s = behind_some (row_sheet x t) t a o in
          let k = row_parts (row_sheet x t) t s.0 s.1 in
          true≢false (sym (back_turns Hop hop_within (Stage x 64 64 t) (row_sheet x t) (best_rows t now) (before_unlock x t) (from_on x s.0) 0 0 (omega arith) (back s.2 y w le)) ∙ k.1)
