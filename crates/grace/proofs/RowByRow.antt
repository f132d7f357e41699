-- The table found lock by lock is the first.
use Rattle.std.proofs.lemmas.Bool.Decides.{nat_tests}
use Rattle.std.proofs.Common.{◌≡◌, ℕ, zero, suc, ◌+◌, ◌<◌, ◌≤◌, true, false, ◌⊎◌, sym, refl, ◌∙◌, subst, inl, inr, ⊎_elim, true≢false, arith}
use Rattle.std.proofs.lemmas.Bool.{and_from, or_left, lt-ltb, cases_Bool, cases_eq}
use Rattle.rows.proofs.Any.{any_some, any_from}
use Rattle.relations.specs.Algebra.{union}
use Rattle.relations.specs.Chains.{Acyclic}
use Rattle.grace.specs.Scene.{Scene, Sound}
use Rattle.grace.specs.Law.{Kept, Table, pair, section_first, entry, pairs, enlarged}
use Rattle.grace.specs.First.{sooner, Precedes}
use Rattle.grace.specs.ByRow.{rows, WayBack, Rowwise, RowLaw}
use Rattle.grace.proofs.Closure.{On, union_cases, union_left, union_right}
use Rattle.grace.proofs.Trips.{Links, Trip, Trip.last, Trip.via, Round.round, extend, trip_mono, round_mono}
use Rattle.grace.proofs.Cuts.{Back, Back.back}
use Rattle.grace.proofs.Grounds.{Relay, Relay.fence, Relay.period, Relay.section, Clear, relay_mono, clear_mono, Fenced, fenced_back, back_fenced}
use Rattle.grace.proofs.Rules.{ground, kept_clear, clear_kept, tour_lead, lead_tour}
use Rattle.grace.proofs.Entries.{pair_small, pair_period, section_parts, section_from, period_parts, entry_section, entry_period, section_entry, pairs_some, some_pairs}
use Rattle.grace.proofs.Precedence.{obeyed_clear}

module _ (x : Scene) (sound : Sound x) (F : Table) where
  -- the strong fences and the rows of the locks below l
  abbrev pub Rowed : ℕ → Links
  Rowed l = On (union x.strong (rows x F l))

  pub rows_some : (l a b : ℕ) → On (rows x F l) a b → (k : ℕ) × (t : ℕ) × (k < l) × On (pair x) k t × (F k t ≡ true) × On (section_first x k t) a b
  unfolding rows
  rows_some l a b e = grind (arith, nat_tests, any_some)

  pub some_rows : (l a b k t : ℕ) → k < l → On (pair x) k t → F k t ≡ true → On (section_first x k t) a b → On (rows x F l) a b
  unfolding rows
  some_rows l a b k t lt e h g =
      any_from l k _ lt
      (any_from 64 t _ (pair_small x sound k t e).1
      (and_from _ _ e (and_from _ _ h g)))

  rowed_more : (k l : ℕ) → k ≤ l → (a b : ℕ) → Rowed k a b → Rowed l a b
  rowed_more k l le a b e = grind (arith, nat_tests, union_left, rows_some, union_right, some_rows, union_cases)

  -- ---- ways back

  abbrev pub Leads : ℕ → ℕ → Type 0
  Leads l s = Back (ground x).hop (Relay (ground x) (Rowed l)) ((ground x).section_in l) ((ground x).period_out s) 0 0

  pub way_leads : (l s : ℕ) → WayBack x (union x.strong (rows x F l)) l s → Leads l s
  way_leads l s w = let le = w.enough in back w.starts w.ends (lead_tour x sound _ w.start w.linked w.walked) (omega arith)

  pub leads_way : (l s : ℕ) → Leads l s → WayBack x (union x.strong (rows x F l)) l s
  leads_way l s (back {p} {q} {a} {b} o i t le) = grind (arith, nat_tests, tour_lead)

  module _ (rowwise : Rowwise x F) where
    no_lead : (l s : ℕ) → On (pair x) l s → F l s ≡ true → Leads l s → ⊥
    no_lead l s e t b = (rowwise l s e).0 t (leads_way l s b)

    some_lead : (l s : ℕ) → On (pair x) l s → F l s ≡ false → (Leads l s → ⊥) → ⊥
    some_lead l s e t none = true≢false (sym ((rowwise l s e).1 (λ w. none (way_leads l s w))) ∙ t)

    -- ---- the rows make no round

    -- the periods that F puts after the section with lock l, and all after them
    abbrev Behind : ℕ → ℕ → Type 0
    Behind l b = (s : ℕ) × On (pair x) l s × (F l s ≡ true) × (ground x).period_out s b

    next_row : (l a b : ℕ) → Rowed (suc l) a b → Fenced (Rowed l) ((ground x).section_in l) (Behind l) a b
    next_row l a b e = ⊎_elim (λ h. inl (union_left _ _ h)) (λ h. by (rows_some (suc l) a b h)) (union_cases _ _ e)
      where
        by : (k : ℕ) × (t : ℕ) × (k < suc l) × On (pair x) k t × (F k t ≡ true) × On (section_first x k t) a b
            → Fenced (Rowed l) ((ground x).section_in l) (Behind l) a b
        by m = ⊎_elim same other (cases_eq m.0 l)
          where
            same : m.0 ≡ l → Fenced (Rowed l) ((ground x).section_in l) (Behind l) a b
            same u =
                let w = subst (λ k. On (pair x) k m.1 × (F k m.1 ≡ true) × On (section_first x k m.1) a b) u (m.3, m.4, m.5) in
                let h = section_parts x sound l m.1 a b w.2 in
                inr (h.0, (m.1, w.0, w.1, h.1))

            other : (m.0 ≡ l → ⊥) → Fenced (Rowed l) ((ground x).section_in l) (Behind l) a b
            other u = let lt = m.2 in inl (union_right _ _ (some_rows l a b m.0 m.1 (omega arith) m.3 m.4 m.5))

    clear_row : (l : ℕ) → Clear (ground x) (Rowed l) → Clear (ground x) (Rowed (suc l))
    clear_row l clear t = by (fenced_back (ground x) (Rowed l) ((ground x).section_in l) (Behind l) clear (round_mono (relay_mono (next_row l)) t))
      where
        by : Back (ground x).hop (Relay (ground x) (Rowed l)) ((ground x).section_in l) (Behind l) 0 0 → ⊥
        by (back o i u le) = no_lead l o.0 o.1 o.2 (back o.3 i u le)

    clear_rows : Kept x x.strong → (l : ℕ) → Clear (ground x) (Rowed l)
    clear_rows kept zero = clear_mono none (kept_clear x sound x.strong kept)
      where
        none : (a b : ℕ) → Rowed 0 a b → On x.strong a b
        none a b e = ⊎_elim (λ h. h) (λ h. let m = rows_some 0 a b h in let lt = m.2 in absurd (omega arith)) (union_cases _ _ e)
    clear_rows kept (suc l) = clear_row l (clear_rows kept l)

    -- ---- period first gains nothing: the period, a way back and the section do as much

    abbrev Tabled : Links
    Tabled = On (union x.strong (pairs x F))

    -- a fence of the table is one of the rows, or puts a period first that has a way back
    Rest : Links
    Rest a b = (l : ℕ) × (s : ℕ) × (ground x).period_in s a × (ground x).section_out l b × (l < 64) × ((Leads l s → ⊥) → ⊥)

    tabled_cases : (a b : ℕ) → Tabled a b → Rowed 64 a b ⊎ Rest a b
    unfolding Rest
    tabled_cases a b e = ⊎_elim (λ h. inl (union_left _ _ h)) (λ h. by (pairs_some x sound F a b h)) (union_cases _ _ e)
      where
        by : (l : ℕ) × (s : ℕ) × On (pair x) l s × On (entry x F l s) a b → Rowed 64 a b ⊎ Rest a b
        by m = ⊎_elim first second (cases_Bool (F m.0 m.1))
          where
            small : (m.0 < 64) × (m.1 < 64)
            small = pair_small x sound m.0 m.1 m.2

            first : F m.0 m.1 ≡ true → Rowed 64 a b ⊎ Rest a b
            first t =
                inl (union_right _ _
                (some_rows 64 a b m.0 m.1 small.0 m.2 t (entry_section x sound F m.0 m.1 a b t m.3)))

            second : F m.0 m.1 ≡ false → Rowed 64 a b ⊎ Rest a b
            second t =
                let h = period_parts x sound m.0 m.1 a b (entry_period x sound F m.0 m.1 a b t m.3) in
                inr (m.0, m.1, (h.0, pair_period x sound m.0 m.1 m.2), h.1, small.0, some_lead m.0 m.1 m.2 t)

    -- the trips over the rows
    abbrev Tour : ℕ → ℕ → ℕ → ℕ → Type 0
    Tour = Trip (ground x).hop (Relay (ground x) (Rowed 64))

    -- in place of a fence that puts a period first: from a through the period, back, and through the section to b, and on
    detour : {p q a b c : ℕ} → Rest a b → Tour p q b c
        → ((m n d : ℕ) → Relay (ground x) (Rowed 64) 1 0 a d → Tour m n d c → p + n ≤ suc m + q → ⊥) → ⊥
    unfolding Rest
    detour {p} {q} {a} {b} {c} e t k = e.5 by
      where
        by : Leads e.0 e.1 → ⊥
        by (back o i u le) =
            let lt = e.4 in
            k _ _ _ (period (e.1, e.2, o))
            (extend (trip_mono (relay_mono (rowed_more e.0 64 (omega arith))) u) (λ v h. via h (section (e.0, i, e.3)) t refl refl))
            (omega arith)

    -- a trip over the whole table has one over the rows that is no worse
    retour : {p q a b : ℕ} → Trip (ground x).hop (Relay (ground x) Tabled) p q a b → ((m n : ℕ) → Tour m n a b → p + n ≤ m + q → ⊥) → ⊥
    retour (last h) k = k _ _ (last h) (omega arith)
    retour (via h (period e) t u v) k = retour t (λ m n w le. k _ _ (via h (period e) w refl refl) (omega arith))
    retour (via h (section e) t u v) k = retour t (λ m n w le. k _ _ (via h (section e) w refl refl) (omega arith))
    retour (via h (fence e) t u v) k =
        retour t (λ m n w le. ⊎_elim (λ r. k _ _ (via h (fence r) w refl refl) (omega arith))
        (λ r. detour r w (λ m' n' d s w' le'. k _ _ (via h s w' refl refl) (omega arith))) (tabled_cases _ _ e))

    clear_table : Kept x x.strong → Clear (ground x) Tabled
    clear_table kept (round (period e) t le) = retour t (λ m n w k. clear_rows kept 64 (round (period e) w (omega arith)))
    clear_table kept (round (section e) t le) = retour t (λ m n w k. clear_rows kept 64 (round (section e) w (omega arith)))
    clear_table kept (round (fence e) t le) =
        retour t (λ m n w k. ⊎_elim (λ r. clear_rows kept 64 (round (fence r) w (omega arith)))
        (λ r. detour r w (λ m' n' d s w' le'. clear_rows kept 64 (round s w' (omega arith)))) (tabled_cases _ _ e))

    obeys_rows : Kept x x.strong → Acyclic (enlarged x F)
    unfolding enlarged
    obeys_rows kept = (clear_kept x sound (union x.strong (pairs x F)) (clear_table kept)).0

    -- ---- no table that obeys comes before

    sooner_row : (k t l s : ℕ) → k < l → sooner k t l s ≡ true
    unfolding sooner
    sooner_row k t l s lt = or_left _ _ (lt-ltb _ _ lt)

    rows_within : (H : Table) (d : Precedes x H F) (a b : ℕ)
        → Fenced (Rowed d.lock) ((ground x).section_in d.lock) ((ground x).period_out d.period) a b → On (union x.strong (pairs x H)) a b
    rows_within H d a b (inr e) =
        union_right _ _
        (some_pairs x sound H d.lock d.period a b d.is_pair
        (section_entry x sound H d.lock d.period a b d.section_in_F (section_from x sound d.lock d.period a b e.0 e.1)))
    rows_within H d a b (inl e) =
        ⊎_elim (union_left x.strong (pairs x H))
        (λ h. let m = rows_some d.lock a b h in
        let same = d.same_before m.0 m.1 m.3 (sooner_row m.0 m.1 d.lock d.period m.2) in
        union_right _ _ (some_pairs x sound H m.0 m.1 a b m.3 (section_entry x sound H m.0 m.1 a b (same ∙ m.4) m.5)))
        (union_cases _ _ e)

    none_before : (H : Table) → Precedes x H F → Acyclic (enlarged x H) → ⊥
    none_before H d h =
        some_lead d.lock d.period d.is_pair d.period_in_H
        (λ b. obeyed_clear x sound H h (round_mono (relay_mono (rows_within H d))
        (back_fenced (ground x) (Rowed d.lock) ((ground x).section_in d.lock) ((ground x).period_out d.period) b)))

pub row_law : RowLaw
row_law x sound kept F rowwise = record { obeys = obeys_rows x sound F rowwise kept; no_sooner = none_before x sound F rowwise }
