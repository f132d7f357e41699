-- No fault comes exactly when the execution is well formed.
use Rattle.std.proofs.Common.{◌≡◌, ℕ, ◌+◌, ◌-◌, ◌<◌, ◌≤◌, Bool, true, false, cond, not, ◌&&◌, ◌||◌, eqb, ltb, ◌⊎◌, Some, None, Option, ok_or, Ok, Err, sym, refl, ap, ◌∙◌, subst, inl, inr, ⊎_elim, arith}
use Rattle.std.proofs.lemmas.Bool.{both_ways, not-true, not-false, and_parts, and_from, or_right, ltb-true, ltb-false, lt-ltb, le-ltb, eqb-true, eqb-false, eq-eqb, ne_eqb, cases_eq, cases_lt, cases_Bool, false_from_ne_true}
use Rattle.std.proofs.lemmas.Bool.Decides.{nat_tests}
use Rattle.rows.specs.Row.{any, count as many}
use Rattle.rows.proofs.Any.{any_from, any_some, any_false_at}
use Rattle.relations.specs.Algebra.{plus}
use Rattle.relations.specs.Chains.{Chain}
use Rattle.relations.specs.Table.{On}
use Rattle.relations.proofs.Closure.{closure_decides}
use Rattle.executions.specs.declared.events.Event.{Event}
use Rattle.executions.specs.declared.faults.Cause.TheVariants.{TooManyEvents, OutOfRange, NoSuchEvent, DoesNotFit, OverLimit, ReadWithoutRf, InitialWrites, CoherenceNotTotal, LocksNotPaired}
use Rattle.executions.specs.declared.faults.Fault.{Fault}
use Rattle.executions.specs.declared.faults.Layer.TheVariants.{Check}
use Rattle.executions.specs.declared.ties.Relation.{Relation}
use Rattle.executions.specs.declared.ties.Relation.TheVariants.{Rf, Co, Addr, Data, Ctrl, Rmw}
use Rattle.executions.specs.Events.{in_range, is_read, is_write}
use Rattle.executions.specs.Execution.{Execution, count, event_at}
use Rattle.executions.specs.Ties.{fits}
use Rattle.sources.specs.declared.kinds.Snapshot.{Snapshot}
use Rattle.sources.specs.Snapshot.{execution, Copies}
use Rattle.sources.specs.Source.{bounded}
use Rattle.wellformed.specs.Events.{accesses, writes, initials, co, unlocks, depth}
use Rattle.wellformed.specs.Faults.{or_else, first, fault_if, range_fault, one_too_many, pair_fault, tie_fault, row_fault, relation_fault, read_fault, initial_fault, unordered, disordered, coherence_fault, unlock_fault, last_lock, thread_fault, count_fault, events_fault, ties_fault, reads_fault, initials_fault, orders_fault, threads_fault, first_fault}
use Rattle.wellformed.specs.WellFormed.{Tied, Inside, OneInitial, Ordered, Paired, WellFormed}
use Rattle.wellformed.proofs.Counting.{one_from_count, count_from_one}
use Rattle.wellformed.proofs.First.{first_clear, first_none_at, neither, both_none, unmet, unmet_by}
use Rattle.wellformed.proofs.Limits.{one_rf_from, rf_fine, one_rmw_from, rmw_fine}

-- ---- places

-- a read or write in range has a place from 1 to 16
placed : (e : Event) → in_range e ≡ true → (is_read e || is_write e) ≡ true → (1 ≤ e.place) × (e.place ≤ 16)
placed e r a = (grind (arith, nat_tests), grind (arith, nat_tests))

-- a place from 1 on is one more than a number
place_from : (p n : ℕ) → 1 ≤ p → p ≤ n → (k : ℕ) × (k < n) × (k + 1 ≡ p)
place_from p n h l = (p - 1, omega arith, omega arith)

-- ---- what no fault of a tie says of it

pub record Fine (x : Execution) (r : Relation) (a b : ℕ) : Type 0 where
  pub ends : b < count x
  pub fitting : fits r a (event_at x a) b (event_at x b) ≡ true
  pub room : one_too_many x r a b ≡ false

module _ (x : Execution) (inside : Inside x) where
  fine_from : (r : Relation) (a b : ℕ) → tie_fault x r a b ≡ None → Tied x r a b → Fine x r a b
  fine_from r a b e t =
      let all : pair_fault x r a b (one_too_many x r a b) ≡ None = subst (λ (u : Bool). cond u (pair_fault x r a b (one_too_many x r a b)) None ≡ None) t e in
      let one = neither (fault_if (not (ltb b (count x))) NoSuchEvent b) _ all in
      let two = neither (fault_if (not (fits r a (event_at x a) b (event_at x b))) DoesNotFit a) (fault_if (one_too_many x r a b) OverLimit b) one.1 in
      record {
        ends = ltb-true b (count x) (not-false _ (unmet_by _ NoSuchEvent b one.0));
        fitting = not-false _ (unmet_by _ DoesNotFit a two.0);
        room = unmet_by _ OverLimit b two.1;
      }

  fine_none : (r : Relation) (a b : ℕ) → (Tied x r a b → Fine x r a b) → tie_fault x r a b ≡ None
  fine_none r a b f = go (x.ties r a b) refl
    where
      go : (u : Bool) → x.ties r a b ≡ u → cond u (pair_fault x r a b (one_too_many x r a b)) None ≡ None
      go false e = refl
      go true e =
          let g = f e in
          both_none _ _ (unmet _ NoSuchEvent b (ap not (lt-ltb b (count x) g.ends)))
          (both_none _ _ (unmet _ DoesNotFit a (ap not g.fitting)) (unmet _ OverLimit b g.room))

  -- no fault in a relation: every tie of it is fine
  relation_fine : (r : Relation) → relation_fault x r ≡ None → (a b : ℕ) → Tied x r a b → Fine x r a b
  relation_fine r e a b t =
      let i = inside r a b t in
      fine_from r a b (first_none_at (tie_fault x r a) 64 (first_none_at (row_fault x r) (count x) e a i.0) b i.1) t

  relation_none : (r : Relation) → ((a b : ℕ) → Tied x r a b → Fine x r a b) → relation_fault x r ≡ None
  relation_none r f = first_clear (row_fault x r) (count x) (λ a h. first_clear (tie_fault x r a) 64 (λ b k. fine_none r a b (f a b)))

  pub ties_fine : ties_fault x ≡ None → (r : Relation) (a b : ℕ) → Tied x r a b → Fine x r a b
  ties_fine e = go
    where
      all_rf : (relation_fault x Rf ≡ None) × (or_else (relation_fault x Co) (or_else (relation_fault x Addr) (or_else (relation_fault x Data) (or_else (relation_fault x Ctrl) (or_else (relation_fault x Rmw) None)))) ≡ None)
      all_rf = neither (relation_fault x Rf) _ e

      all_co : (relation_fault x Co ≡ None) × (or_else (relation_fault x Addr) (or_else (relation_fault x Data) (or_else (relation_fault x Ctrl) (or_else (relation_fault x Rmw) None))) ≡ None)
      all_co = neither (relation_fault x Co) _ all_rf.1

      all_addr : (relation_fault x Addr ≡ None) × (or_else (relation_fault x Data) (or_else (relation_fault x Ctrl) (or_else (relation_fault x Rmw) None)) ≡ None)
      all_addr = neither (relation_fault x Addr) _ all_co.1

      all_data : (relation_fault x Data ≡ None) × (or_else (relation_fault x Ctrl) (or_else (relation_fault x Rmw) None) ≡ None)
      all_data = neither (relation_fault x Data) _ all_addr.1

      all_ctrl : (relation_fault x Ctrl ≡ None) × (or_else (relation_fault x Rmw) None ≡ None)
      all_ctrl = neither (relation_fault x Ctrl) _ all_data.1

      go : (r : Relation) (a b : ℕ) → Tied x r a b → Fine x r a b
      go Rf = relation_fine Rf all_rf.0
      go Co = relation_fine Co all_co.0
      go Addr = relation_fine Addr all_addr.0
      go Data = relation_fine Data all_data.0
      go Ctrl = relation_fine Ctrl all_ctrl.0
      go Rmw = relation_fine Rmw (neither (relation_fault x Rmw) None all_ctrl.1).0

  ties_none : ((r : Relation) (a b : ℕ) → Tied x r a b → Fine x r a b) → ties_fault x ≡ None
  ties_none f =
      both_none _ _ (relation_none Rf (f Rf)) (both_none _ _ (relation_none Co (f Co)) (both_none _ _ (relation_none Addr (f Addr))
      (both_none _ _ (relation_none Data (f Data)) (both_none _ _ (relation_none Ctrl (f Ctrl)) (both_none _ _ (relation_none Rmw (f Rmw)) refl)))))

  -- ---- coherence

  module _ (few : count x ≤ 64) (ends : (r : Relation) (a b : ℕ) → Tied x r a b → b < count x) where
    on_64 : On 64 (co x)
    on_64 a b t = let i = inside Co a b t in (omega (arith, i.0), i.1)

    chained : (v w : ℕ) → Chain (co x) v w → plus (co x) v w ≡ true
    chained v w c = (closure_decides (co x) on_64 v w).1 c

    chain_of : (v w : ℕ) → plus (co x) v w ≡ true → Chain (co x) v w
    chain_of v w e = (closure_decides (co x) on_64 v w).0 e

    -- two writes that are not unordered
    not_itself : (w : ℕ) → unordered x w w ≡ false → Chain (co x) w w → ⊥
    not_itself w e c = both_ways (plus (co x) w w) (subst (λ (u : Bool). cond u (plus (co x) w w) (cond (plus (co x) w w) (plus (co x) w w) (not (plus (co x) w w))) ≡ false) (eq-eqb w w refl) e) (chained w w c)

    apart : (v w : ℕ) → (v ≡ w → ⊥) → unordered x v w ≡ false → cond (plus (co x) v w) (plus (co x) w v) (not (plus (co x) w v)) ≡ false
    apart v w n e = subst (λ (u : Bool). cond u (plus (co x) v v) (cond (plus (co x) v w) (plus (co x) w v) (not (plus (co x) w v))) ≡ false) (ne_eqb v w n) e

    either_way : (v w : ℕ) → (v ≡ w → ⊥) → unordered x v w ≡ false → Chain (co x) v w ⊎ Chain (co x) w v
    either_way v w n e =
        ⊎_elim (λ t. inl (chain_of v w t))
        (λ f. inr (chain_of w v (not-false (plus (co x) w v) (subst (λ (u : Bool). cond u (plus (co x) w v) (not (plus (co x) w v)) ≡ false) f (apart v w n e)))))
        (cases_Bool (plus (co x) v w))

    not_both : (v w : ℕ) → (v ≡ w → ⊥) → unordered x v w ≡ false → Chain (co x) v w → Chain (co x) w v → ⊥
    not_both v w n e c d =
        both_ways (plus (co x) w v) (subst (λ (u : Bool). cond u (plus (co x) w v) (not (plus (co x) w v)) ≡ false) (chained v w c) (apart v w n e)) (chained w v d)

    ordered_from : (p : ℕ) → any (count x) (λ v. any (count x) (disordered x p v)) ≡ false → Ordered x p
    ordered_from p e = record {
      irreflexive = λ w h t c. not_itself w (at w w h h t t) c;
      total = λ v w h k t u n. either_way v w n (at v w h k t u);
      one_way = λ v w h k t u c d.
          ⊎_elim (λ q. not_itself v (at v v h h t t) (subst (λ (i : ℕ). Chain (co x) v i) (sym q) c)) (λ n. not_both v w n (at v w h k t u) c d) (cases_eq v w);
    }
      where
        at : (v w : ℕ) → v < count x → w < count x → writes x p v ≡ true → writes x p w ≡ true → unordered x v w ≡ false
        at v w h k t u =
            let d : disordered x p v w ≡ false = any_false_at (count x) (disordered x p v) (any_false_at (count x) (λ i. any (count x) (disordered x p i)) e v h) w k in
            subst (λ (b : Bool). (b && unordered x v w) ≡ false) u (subst (λ (b : Bool). (b && (writes x p w && unordered x v w)) ≡ false) t d)

    ordered_none : (p : ℕ) → Ordered x p → any (count x) (λ v. any (count x) (disordered x p v)) ≡ false
    ordered_none p o = false_from_ne_true _ λ e.
        let v : (i : ℕ) × (i < count x) × (any (count x) (disordered x p i) ≡ true) = any_some (count x) (λ i. any (count x) (disordered x p i)) e in
        let w : (i : ℕ) × (i < count x) × (disordered x p v.0 i ≡ true) = any_some (count x) (disordered x p v.0) v.2 in
        let d = and_parts (writes x p v.0) (writes x p w.0 && unordered x v.0 w.0) w.2 in
        let g = and_parts (writes x p w.0) (unordered x v.0 w.0) d.1 in
        ⊎_elim (same v.0 w.0 v.1 d.0 g.1) (other v.0 w.0 v.1 w.1 d.0 g.0 g.1) (cases_eq v.0 w.0)
      where
        same : (v w : ℕ) → v < count x → writes x p v ≡ true → unordered x v w ≡ true → v ≡ w → ⊥
        same v w h t u q =
            o.irreflexive v h t
            (chain_of v v (subst (λ (b : Bool). cond b (plus (co x) v v) (cond (plus (co x) v w) (plus (co x) w v) (not (plus (co x) w v))) ≡ true) (eq-eqb v w q) u))

        other : (v w : ℕ) → v < count x → w < count x → writes x p v ≡ true → writes x p w ≡ true → unordered x v w ≡ true → (v ≡ w → ⊥) → ⊥
        other v w h k t s u n =
            let c : cond (plus (co x) v w) (plus (co x) w v) (not (plus (co x) w v)) ≡ true =
            subst (λ (b : Bool). cond b (plus (co x) v v) (cond (plus (co x) v w) (plus (co x) w v) (not (plus (co x) w v))) ≡ true) (ne_eqb v w n) u in
            ⊎_elim
            (λ e. o.one_way v w h k t s (chain_of v w e) (chain_of w v (subst (λ (b : Bool). cond b (plus (co x) w v) (not (plus (co x) w v)) ≡ true) e c)))
            (λ e.
            let back : plus (co x) w v ≡ false = not-true (plus (co x) w v) (subst (λ (b : Bool). cond b (plus (co x) w v) (not (plus (co x) w v)) ≡ true) e c) in
            ⊎_elim (λ a. both_ways (plus (co x) v w) e (chained v w a)) (λ a. both_ways (plus (co x) w v) back (chained w v a)) (o.total v w h k t s n))
            (cases_Bool (plus (co x) v w))

  -- ---- the whole

  pub formed : first_fault x ≡ None → WellFormed x
  formed e =
      let f0 = neither (count_fault x) _ e in
      let f1 = neither (events_fault x) _ f0.1 in
      let f2 = neither (ties_fault x) _ f1.1 in
      let f3 = neither (reads_fault x) _ f2.1 in
      let f4 = neither (initials_fault x) _ f3.1 in
      let f5 = neither (orders_fault x) (threads_fault x) f4.1 in
      let few : count x ≤ 64 = ltb-false 64 (count x) (unmet_by _ TooManyEvents 64 f0.0) in
      whole few f1.0 f2.0 f3.0 f4.0 f5.0 f5.1
    where
      whole : count x ≤ 64 → events_fault x ≡ None → ties_fault x ≡ None → reads_fault x ≡ None → initials_fault x ≡ None → orders_fault x ≡ None
          → threads_fault x ≡ None → WellFormed x
      whole few events ties reads initial orders threads = record {
        few = few;
        ranged = ranged;
        ends = λ r a b t. (fine r a b t).ends;
        fitting = λ r a b t. (fine r a b t).fitting;
        one_rf = one_rf_from x (λ a b t. (fine Rf a b t).room);
        one_rmw = one_rmw_from x (λ a b t. (inside Rmw a b t).1) (λ a b t. (fine Rmw a b t).room);
        read_from = read_from;
        initial = one_initial;
        ordered = λ p. ⊎_elim (λ h. ⊎_elim (λ k. in_order p h k) (λ k. nowhere p (inr k)) (cases_le p 16)) (λ h. nowhere p (inl h)) (cases_le 1 p);
        paired = paired;
      }
        where
          cases_le : (a b : ℕ) → (a ≤ b) ⊎ (b < a)
          cases_le a b = ⊎_elim (λ h. inr h) (λ h. inl h) (cases_lt b a)

          ranged : (i : ℕ) → i < count x → in_range (event_at x i) ≡ true
          ranged i h = not-false _ (unmet_by _ OutOfRange i (first_none_at (range_fault x) (count x) events i h))

          fine : (r : Relation) (a b : ℕ) → Tied x r a b → Fine x r a b
          fine = ties_fine ties

          read_from : (b : ℕ) → b < count x → is_read (event_at x b) ≡ true → (a : ℕ) × Tied x Rf a b
          read_from b h t =
              let n = unmet_by _ ReadWithoutRf b (first_none_at (read_fault x) (count x) reads b h) in
              let some = not-false (any (count x) (λ a. x.ties Rf a b)) (subst (λ (u : Bool). (u && not (any (count x) (λ a. x.ties Rf a b))) ≡ false) t n) in
              let a = any_some (count x) (λ a. x.ties Rf a b) some in
              (a.0, a.2)

          at_place_16 : (p i : ℕ) → i < count x → accesses x p i ≡ true → (1 ≤ p) × (p ≤ 16)
          at_place_16 p i h t =
              let parts = and_parts (is_read (event_at x i) || is_write (event_at x i)) (eqb (event_at x i).place p) t in
              let q = eqb-true (event_at x i).place p parts.1 in
              let r = placed (event_at x i) (ranged i h) parts.0 in
              (omega (arith, r.0, q), omega (arith, r.1, q))

          one_initial : (p i : ℕ) → i < count x → accesses x p i ≡ true → OneInitial x p
          one_initial p i h t =
              let r = at_place_16 p i h t in
              let k = place_from p 16 r.0 r.1 in
              let none = subst (λ (q : ℕ). initial_fault x q ≡ None) k.2 (first_none_at (λ j. initial_fault x (j + 1)) 16 initial k.0 k.1) in
              let f = unmet_by _ InitialWrites p none in
              let one = subst (λ (u : Bool). (u && not (eqb (many (count x) (initials x p)) 1)) ≡ false) (any_from (count x) i (accesses x p) h t) f in
              let o = one_from_count (initials x p) (count x) (eqb-true (many (count x) (initials x p)) 1 (not-false _ one)) in
              record { write = o.at; there = o.below; is_one = o.member; only = o.only }

          in_order : (p : ℕ) → 1 ≤ p → p ≤ 16 → Ordered x p
          in_order p h l =
              let k = place_from p 16 h l in
              let none = subst (λ (q : ℕ). coherence_fault x q ≡ None) k.2 (first_none_at (λ j. coherence_fault x (j + 1)) 16 orders k.0 k.1) in
              ordered_from few (λ r a b t. (fine r a b t).ends) p (unmet_by _ CoherenceNotTotal p none)

          -- no write is at another place
          unplaced : (p w : ℕ) → (p < 1) ⊎ (16 < p) → w < count x → writes x p w ≡ true → ⊥
          unplaced p w far h t =
              let parts = and_parts (is_write (event_at x w)) (eqb (event_at x w).place p) t in
              let r = at_place_16 p w h (and_from _ _ (or_right (is_read (event_at x w)) (is_write (event_at x w)) parts.0) parts.1) in
              ⊎_elim (λ l. omega (arith, r.0)) (λ l. omega (arith, r.1)) far

          nowhere : (p : ℕ) → (p < 1) ⊎ (16 < p) → Ordered x p
          nowhere p far = record {
            irreflexive = λ w h t c. unplaced p w far h t;
            total = λ v w h k t u n. absurd (unplaced p v far h t);
            one_way = λ v w h k t u c d. unplaced p v far h t;
          }

          paired : (t : ℕ) → 1 ≤ t → t ≤ 8 → Paired x t
          paired t h l =
              let k = place_from t 8 h l in
              let none = subst (λ (q : ℕ). thread_fault x q ≡ None) k.2 (first_none_at (λ j. thread_fault x (j + 1)) 8 threads k.0 k.1) in
              let two = neither (first (count x) (unlock_fault x t)) (fault_if (ltb 0 (depth x t (count x))) LocksNotPaired (last_lock x t (count x))) none in
              record {
                opened = λ u g s.
                    let n = unmet_by _ LocksNotPaired u (first_none_at (unlock_fault x t) (count x) two.0 u g) in
                    let d = eqb-false (depth x t u) 0 (subst (λ (b : Bool). (b && eqb (depth x t u) 0) ≡ false) s n) in
                    omega (arith, d);
                closed = let d = ltb-false 0 (depth x t (count x)) (unmet_by _ LocksNotPaired _ two.1) in omega (arith, d);
              }

  pub faultless : WellFormed x → first_fault x ≡ None
  faultless w =
      both_none _ _ (unmet _ TooManyEvents 64 (le-ltb 64 (count x) w.few))
      (both_none _ _ (first_clear (range_fault x) (count x) (λ i h. unmet _ OutOfRange i (ap not (w.ranged i h))))
      (both_none _ _ (ties_none fine)
      (both_none _ _ (first_clear (read_fault x) (count x) (λ b h. unmet _ ReadWithoutRf b (false_from_ne_true _ (unread b h))))
      (both_none _ _ (first_clear (λ k. initial_fault x (k + 1)) 16 (λ k h. unmet _ InitialWrites (k + 1) (false_from_ne_true _ (unwritten (k + 1)))))
      (both_none _ _ (first_clear (λ k. coherence_fault x (k + 1)) 16 (λ k h. unmet _ CoherenceNotTotal (k + 1) (ordered_none w.few w.ends (k + 1) (w.ordered (k + 1)))))
      (first_clear (λ k. thread_fault x (k + 1)) 8 (λ k h. thread_none (k + 1) (w.paired (k + 1) (omega arith) (omega arith)))))))))
    where
      room : (r : Relation) (a b : ℕ) → Tied x r a b → one_too_many x r a b ≡ false
      room Rf = rf_fine x w.one_rf
      room Co = λ a b t. refl
      room Addr = λ a b t. refl
      room Data = λ a b t. refl
      room Ctrl = λ a b t. refl
      room Rmw = rmw_fine x (λ a b t. (inside Rmw a b t).1) w.one_rmw

      fine : (r : Relation) (a b : ℕ) → Tied x r a b → Fine x r a b
      fine r a b t = record { ends = w.ends r a b t; fitting = w.fitting r a b t; room = room r a b t }

      unread : (b : ℕ) → b < count x → (is_read (event_at x b) && not (any (count x) (λ a. x.ties Rf a b))) ≡ true → ⊥
      unread b h e =
          let parts = and_parts (is_read (event_at x b)) (not (any (count x) (λ a. x.ties Rf a b))) e in
          let a = w.read_from b h parts.0 in
          both_ways (any (count x) (λ c. x.ties Rf c b)) (not-true _ parts.1) (any_from (count x) a.0 (λ c. x.ties Rf c b) (inside Rf a.0 b a.1).0 a.1)

      unwritten : (p : ℕ) → (any (count x) (accesses x p) && not (eqb (many (count x) (initials x p)) 1)) ≡ true → ⊥
      unwritten p e =
          let parts = and_parts (any (count x) (accesses x p)) (not (eqb (many (count x) (initials x p)) 1)) e in
          let i = any_some (count x) (accesses x p) parts.0 in
          let o = w.initial p i.0 i.1 i.2 in
          eqb-false (many (count x) (initials x p)) 1 (not-true _ parts.1)
          (count_from_one (initials x p) (count x) (record { at = o.write; below = o.there; member = o.is_one; only = o.only }))

      thread_none : (t : ℕ) → Paired x t → thread_fault x t ≡ None
      thread_none t p =
          both_none _ _
          (first_clear (unlock_fault x t) (count x) (λ u h. unmet _ LocksNotPaired u (false_from_ne_true _ (λ e.
          let parts = and_parts (unlocks x t u) (eqb (depth x t u) 0) e in
          let z = eqb-true (depth x t u) 0 parts.1 in
          omega (arith, p.opened u h parts.0, z)))))
          (unmet _ LocksNotPaired _ (le-ltb 0 (depth x t (count x)) (omega (arith, p.closed))))

-- the ties of a source go from its events to numbers below 64
pub inside_bounded : (x : Execution) → Inside (bounded x)
inside_bounded x r a b t =
    let one = and_parts (ltb a (count x)) (ltb b 64 && x.ties r a b) t in
    let two = and_parts (ltb b 64) (x.ties r a b) one.1 in
    (ltb-true a (count x) one.0, ltb-true b 64 two.0)

-- a fault that comes is one that a well-formed execution has not
pub faulty : (x : Execution) → Inside x → (f : Fault) → first_fault x ≡ Some f → WellFormed x → ⊥
faulty x inside f e w = let none = faultless x inside w in let z : ◌≡◌ {A = ℕ} 0 1 = cc in omega arith

pub too_many : (x : Execution) (f : Fault) → 64 < count x → f ≡ record { cause = TooManyEvents; layer = Check; place = 64 } → first_fault x ≡ Some f
too_many x f h e = rw (lt-ltb 64 (count x) h) (ap Some (sym e))

-- the copy of a source, or the fault in its place
pub copied : (x : Execution) (o : Option Snapshot) (f : Fault) (s : Snapshot) → Copies x o → ok_or o f ≡ Ok s → execution s ≡ x
copied x None f s h e = let z : ◌≡◌ {A = ℕ} 0 1 = cc in absurd (omega arith)
copied x (Some t) f s h e = let same : t ≡ s = cc in sym (ap execution same) ∙ h.1

pub not_copied : (x : Execution) (o : Option Snapshot) (f g : Fault) → Copies x o → ok_or o f ≡ Err g → (64 < count x) × (g ≡ f)
not_copied x None f g h e = let same : f ≡ g = cc in (h, sym same)
not_copied x (Some s) f g h e = let z : ◌≡◌ {A = ℕ} 0 1 = cc in absurd (omega arith)
