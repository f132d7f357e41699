-- The table read off the sheet is the first: a way back over the rows of the locks before it is a trip at its stage.
use Rattle.std.proofs.lemmas.Bool.Decides.{nat_tests}
use Rattle.std.proofs.Common.{◌≡◌, ℕ, ◌+◌, true, false, sym, refl, ◌∙◌, subst₂, ⊎_elim, true≢false, arith}
use Rattle.std.proofs.lemmas.Bool.{and_from, and_parts, cases_Bool}
use Rattle.rows.proofs.Any.{any_from}
use Rattle.grace.specs.Scene.{Scene, Sound}
use Rattle.grace.specs.Law.{Walk.here, pair, before_unlock, from_on}
use Rattle.grace.specs.ByRow.{rows, Rowwise}
use Rattle.grace.specs.Sheet.{turns}
use Rattle.grace.specs.Deciding.{before_period, row, behind, row_sheet, first_table, DecidingLaw}
use Rattle.grace.proofs.Closure.{On, union_cases, union_left, union_right}
use Rattle.grace.proofs.Trips.{Trip, Trip.last, Trip.via, extend, trip_mono}
use Rattle.grace.proofs.Cuts.{Back, Back.back}
use Rattle.grace.proofs.Grounds.{Relay, Relay.fence, Relay.period, Relay.section, relay_mono}
use Rattle.grace.proofs.Rules.{ground, period_known, section_known, hop_link, link_more, lead_tour}
use Rattle.grace.proofs.Entries.{pair_small, section_parts, section_from}
use Rattle.grace.proofs.RowByRow.{Rowed, Leads, rows_some, some_rows, way_leads, leads_way, row_law}
use Rattle.grace.proofs.Sheets.{In, turns_back, back_turns}
use Rattle.grace.proofs.Stages.{Stage, Stage.period, Stage.section, Stage.rowed, Hop, hop_within, Calm, kept_calm, calm_rows, best_rows, row_parts, behind_some, rounds_none, none_rounds}

module _ (x : Scene) (sound : Sound x) where
  first_row : (l s : ℕ) → first_table x l s ≡ row x (row_sheet x l) l s
  unfolding first_table
  first_row l s = refl

  module _ (l : ℕ) where
    -- the trips over the rows of the locks below l, by hops and fences
    abbrev Over : ℕ → ℕ → ℕ → ℕ → Type 0
    Over = Trip (ground x).hop (Relay (ground x) (Rowed x sound (first_table x) l))

    -- ---- a trip of the stage, hop by hop

    stage_relay : (i j a b : ℕ) → Stage x 64 64 l i j a b → Relay (ground x) (Rowed x sound (first_table x) l) i j a b
    unfolding before_period
    stage_relay i j a b (period s lt e f) = period (s, and_parts _ _ e, f)
    stage_relay i j a b (section c lt e f) = section (c, e, f)
    stage_relay i j a b (rowed c lt e f) =
        let s = behind_some x sound (row_sheet x c) c b f in
        let k = row_parts x sound (row_sheet x c) c s.0 s.1 in
        fence (union_right _ _
        (some_rows x sound (first_table x) l a b c s.0 lt k.0 (first_row c s.0 ∙ s.1) (section_from x sound c s.0 a b e s.2)))

    link_over : (a b : ℕ) → Hop x sound a b → Over 0 0 a b
    link_over a b h = trip_mono (relay_mono (λ a b. union_left x.strong (rows x (first_table x) l))) (lead_tour x sound x.strong a h here)

    stage_over : {p q a b : ℕ} → Trip (Hop x sound) (Stage x 64 64 l) p q a b → Over p q a b
    stage_over (last h) = link_over _ _ h
    stage_over {a = a} {b = d} (via h e t u v) =
        subst₂ (λ p q. Over p q a d) (omega arith) (omega arith) (extend (link_over a _ h) (λ w k. via k (stage_relay _ _ _ _ e) (stage_over t) refl refl))

    -- ---- and back

    prepend : {m n p q a b c d : ℕ} → (ground x).hop a b → On x.strong b c → p ≡ 0 + m → q ≡ 0 + n → Trip (Hop x sound) (Stage x 64 64 l) m n c d
        → Trip (Hop x sound) (Stage x 64 64 l) p q a d
    prepend {a = a} {b} {c} {d} h e u v (last k) = subst₂ (λ p q. Trip (Hop x sound) (Stage x 64 64 l) p q a d) (omega arith) (omega arith) (last (link_more x sound x.strong a b c d h e k))
    prepend {a = a} {b} {c} h e u v (via k g t u' v') = via (link_more x sound x.strong a b c _ h e k) g t (omega arith) (omega arith)

    some_behind : (c s b : ℕ) → On (pair x) c s → first_table x c s ≡ true → from_on x s b ≡ true → behind x (row_sheet x c) c b ≡ true
    unfolding behind
    some_behind c s b e f o =
        any_from 64 s _ (pair_small x sound c s e).1
        (and_from _ _ (sym (first_row c s) ∙ f) o)

    over_fence : {m n p q a b c d : ℕ} → (ground x).hop a b → Rowed x sound (first_table x) l b c → p ≡ 0 + m → q ≡ 0 + n → Trip (Hop x sound) (Stage x 64 64 l) m n c d
        → Trip (Hop x sound) (Stage x 64 64 l) p q a d
    over_fence {a = a} {b} {c} h e u v t =
        ⊎_elim (λ k. prepend h k u v t)
        (λ k. let w = rows_some x sound (first_table x) l b c k in
        let g = section_parts x sound w.0 w.1 b c w.5 in
        via (hop_link x sound x.strong a b h) (rowed w.0 w.2 g.0 (some_behind w.0 w.1 c w.3 w.4 g.1)) t u v)
        (union_cases _ _ e)

    over_stage : {p q a b : ℕ} → Over p q a b → Trip (Hop x sound) (Stage x 64 64 l) p q a b
    unfolding before_period
    over_stage (last h) = last (hop_link x sound x.strong _ _ h)
    over_stage (via h (fence e) t u v) = over_fence h e u v (over_stage t)
    over_stage (via {b = b} h (period e) t u v) =
        via (hop_link x sound x.strong _ _ h)
        (period e.0 (period_known x sound e.0 e.1.1) (and_from _ _ e.1.0 e.1.1) e.2) (over_stage t) u v
    over_stage (via {b = b} h (section e) t u v) =
        via (hop_link x sound x.strong _ _ h) (section e.0 (section_known x sound e.0 b e.1) e.1 e.2) (over_stage t) u v

    -- ---- the test on the sheet says whether a way leads back

    module _ (calm : Calm x sound 64 64 0) (s : ℕ) where
      leads_turns : Leads x sound (first_table x) l s → turns (row_sheet x l) (before_unlock x l) (from_on x s) 0 0 ≡ true
      leads_turns (back o i t le) =
          back_turns (Hop x sound) (hop_within x sound) (Stage x 64 64 l) (row_sheet x l) (best_rows x sound l (calm_rows x sound calm l)) (before_unlock x l) (from_on x s) 0 0 (omega arith)
          (back o i (over_stage t) le)

      turns_leads : turns (row_sheet x l) (before_unlock x l) (from_on x s) 0 0 ≡ true → Leads x sound (first_table x) l s
      turns_leads e = by (turns_back (Hop x sound) (hop_within x sound) (Stage x 64 64 l) (row_sheet x l) (best_rows x sound l (calm_rows x sound calm l)) (before_unlock x l) (from_on x s) 0 0 (omega arith) e)
        where
          by : Back (Hop x sound) (Stage x 64 64 l) (In (before_unlock x l)) (In (from_on x s)) 0 0 → Leads x sound (first_table x) l s
          by (back o i t le) = back o i (stage_over t) le

  row_from : (l s : ℕ) → On (pair x) l s → turns (row_sheet x l) (before_unlock x l) (from_on x s) 0 0 ≡ false → first_table x l s ≡ true
  unfolding first_table row
  row_from l s e k = grind (arith, nat_tests)

  rowwise : Calm x sound 64 64 0 → Rowwise x (first_table x)
  rowwise calm l s e = (
    λ f w. true≢false (sym (leads_turns l calm s (way_leads x sound (first_table x) l s w)) ∙ (row_parts x sound (row_sheet x l) l s (sym (first_row l s) ∙ f)).1),
    λ none. ⊎_elim (λ k. absurd (none (leads_way x sound (first_table x) l s (turns_leads l calm s k)))) (row_from l s e)
        (cases_Bool (turns (row_sheet x l) (before_unlock x l) (from_on x s) 0 0)),
  )

pub deciding_law : DecidingLaw
deciding_law x sound pb_kept =
    ((rounds_none x sound, none_rounds x sound), λ rcu. row_law x sound (pb_kept, rcu) (first_table x) (rowwise x sound (kept_calm x sound rcu)))
