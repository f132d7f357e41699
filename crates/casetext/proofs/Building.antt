-- What is entered and tied one by one is a case.
use Rattle.std.proofs.Common.{◌≡◌, ℕ, ◌<◌, true, false, ◌&&◌, ◌||◌, eqb, ◌⊎◌, [], ◌∷◌, ◌++◌, Some, Option, sym, refl, ap, ◌∙◌, subst, subst₂, inl, inr, ⊎_elim, arith}
use Rattle.std.proofs.lemmas.List.{length_push}
use Rattle.std.proofs.ByRecursion.{All-push}
use Rattle.std.proofs.lemmas.Bool.{and_parts, or_cases, or_parts, or_left, or_right, eqb-true, both_ways}
use Rattle.rows.specs.Row.{any}
use Rattle.rows.proofs.Any.{any_from}
use Rattle.executions.specs.declared.events.Event.{Event}
use Rattle.executions.specs.declared.ties.Relation.{Relation}
use Rattle.executions.specs.declared.ties.Relation.TheVariants.{Rf, Rmw}
use Rattle.executions.specs.Events.{in_range}
use Rattle.executions.specs.Execution.{Execution, count, event_at}
use Rattle.executions.specs.Ties.{relation_number, relation_of, fits}
use Rattle.tables.specs.Plain.{blank, full, taken, pair}
use Rattle.casetext.specs.Entered.{Case, Stands}
use Rattle.executions.proofs.Words.{relation_found}

abbrev pub NoTies : Execution → Type 0
NoTies x = (r : Relation) (a b : ℕ) → x.ties r a b ≡ false

no_tie : {A : Type 0} (x : Execution) → NoTies x → (r : Relation) (a b : ℕ) → x.ties r a b ≡ true → A
no_tie x none r a b h = absurd (both_ways (x.ties r a b) (none r a b) h)

-- nothing is a case
pub blank_case : Case blank.execution
blank_case = record {
  few = omega arith;
  range = tt;
  inside = λ r a b h. no_tie blank.execution (λ r a b. refl) r a b h;
  fit = λ r a b h. no_tie blank.execution (λ r a b. refl) r a b h;
  one_rf = λ a b c h k. no_tie blank.execution (λ r a b. refl) Rf a c h;
  one_rmw = λ a b c d e h k s t. no_tie blank.execution (λ r a b. refl) Rmw a b h;
}

-- one event more, before any tie
pub entered_case : (x : Execution) (e : Event) → Case x → NoTies x → count x < 64 → in_range e ≡ true → Case (record { events = x.events ++ e ∷ []; ties = x.ties })
entered_case x e c none room range = record {
  few = omega (arith, length_push x.events e);
  range = All-push (λ d. in_range d ≡ true) x.events e c.range range;
  inside = λ r a b h. no_tie x none r a b h;
  fit = λ r a b h. no_tie x none r a b h;
  one_rf = λ a b d h k. no_tie x none Rf a d h;
  one_rmw = λ a b d f g h k s t. no_tie x none Rmw a b h;
}

-- two relations with one number are one
same_number : (r q : Relation) → relation_number r ≡ relation_number q → r ≡ q
same_number r q e = let some : ◌≡◌ {A = Option Relation} (Some r) (Some q) = sym (relation_found r) ∙ ap relation_of e ∙ relation_found q in cc

-- the pair is just the one tie
pub record Same (r : Relation) (a b : ℕ) (q : Relation) (d e : ℕ) : Type 0 where
  pub relation : q ≡ r
  pub first : d ≡ a
  pub second : e ≡ b

pub pair_same : (r : Relation) (a b : ℕ) (q : Relation) (d e : ℕ) → pair r a b q d e ≡ true → Same r a b q d e
pair_same r a b q d e h =
    let outer = and_parts (eqb (relation_number q) (relation_number r)) (eqb d a && eqb e b) h in
    let inner = and_parts (eqb d a) (eqb e b) outer.1 in
    record { relation = same_number q r (eqb-true _ _ outer.0); first = eqb-true d a inner.0; second = eqb-true e b inner.1 }

-- one tie more
module _ (x : Execution) (r : Relation) (a b : ℕ) (c : Case x) (first : a < count x) (second : b < count x)
    (fit : fits r a (event_at x a) b (event_at x b) ≡ true) (free : taken (count x) x.ties r a b ≡ false) where
  abbrev after : Execution
  after = record { events = x.events; ties = λ q d e. x.ties q d e || pair r a b q d e }

  -- a tie is an old one or the new one
  either : (q : Relation) (d e : ℕ) → after.ties q d e ≡ true → (x.ties q d e ≡ true) ⊎ Same r a b q d e
  either q d e h = ⊎_elim (λ t. inl t) (λ t. inr (pair_same r a b q d e t)) (or_cases (x.ties q d e) (pair r a b q d e) h)

  room : (q : Relation) → q ≡ r → full (count x) x.ties q a b ≡ false
  room q e = rw e (or_parts (x.ties r a b) (full (count x) x.ties r a b) free).1

  -- no other rf tie goes to b
  new_rf : Rf ≡ r → (d : ℕ) → x.ties Rf d b ≡ true → ⊥
  new_rf e d h = both_ways (any (count x) (λ i. x.ties Rf i b)) (room Rf e) (any_from (count x) d (λ i. x.ties Rf i b) (c.inside Rf d b h).0 h)

  -- no other rmw tie has a or b
  in_none : (i : ℕ) → any (count x) (λ j. x.ties Rmw i j || x.ties Rmw j i) ≡ false → (d e : ℕ) → x.ties Rmw d e ≡ true → Stands i d e → ⊥
  in_none i none d e h s =
      both_ways (any (count x) (λ j. x.ties Rmw i j || x.ties Rmw j i)) none
      (⊎_elim
      (λ q. any_from (count x) e (λ j. x.ties Rmw i j || x.ties Rmw j i) (c.inside Rmw d e h).1 (or_left (x.ties Rmw i e) (x.ties Rmw e i) (subst (λ (k : ℕ). x.ties Rmw k e ≡ true) (sym q) h)))
      (λ q. any_from (count x) d (λ j. x.ties Rmw i j || x.ties Rmw j i) (c.inside Rmw d e h).0 (or_right (x.ties Rmw i d) (x.ties Rmw d i) (subst (λ (k : ℕ). x.ties Rmw d k ≡ true) (sym q) h)))
      s)

  new_rmw : Rmw ≡ r → (i d e : ℕ) → x.ties Rmw d e ≡ true → Stands i a b → Stands i d e → ⊥
  new_rmw q i d e h s t =
      let parts = or_parts (any (count x) (λ j. x.ties Rmw a j || x.ties Rmw j a)) (any (count x) (λ j. x.ties Rmw b j || x.ties Rmw j b)) (room Rmw q) in
      ⊎_elim (λ k. in_none a parts.0 d e h (subst (λ (n : ℕ). Stands n d e) k t)) (λ k. in_none b parts.1 d e h (subst (λ (n : ℕ). Stands n d e) k t)) s

  pub tied_case : Case after
  tied_case = record {
    few = c.few;
    range = c.range;
    inside = λ q d e h. ⊎_elim (λ t. c.inside q d e t) (λ s. (rw s.first first, rw s.second second)) (either q d e h);
    fit = λ q d e h. ⊎_elim (λ t. c.fit q d e t) (λ s. rw (s.relation, s.first, s.second) fit) (either q d e h);
    one_rf = λ d e f h k. ⊎_elim
        (λ t. ⊎_elim (λ u. c.one_rf d e f t u) (λ s. absurd (new_rf s.relation d (subst (λ (n : ℕ). x.ties Rf d n ≡ true) s.second t))) (either Rf e f k))
        (λ s. ⊎_elim (λ u. absurd (new_rf s.relation e (subst (λ (n : ℕ). x.ties Rf e n ≡ true) s.second u))) (λ v. s.first ∙ sym v.first) (either Rf e f k))
        (either Rf d f h);
    one_rmw = λ d e f g i h k s t. ⊎_elim
        (λ u. ⊎_elim (λ v. c.one_rmw d e f g i u v s t)
        (λ v. absurd (new_rmw v.relation i d e u (subst₂ (λ (m n : ℕ). Stands i m n) v.first v.second t) s)) (either Rmw f g k))
        (λ u. ⊎_elim (λ v. absurd (new_rmw u.relation i f g v (subst₂ (λ (m n : ℕ). Stands i m n) u.first u.second s) t))
        (λ v. (u.first ∙ sym v.first, u.second ∙ sym v.second)) (either Rmw f g k))
        (either Rmw d e h);
  }
