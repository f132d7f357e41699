-- Expressions of the relation algebra, evaluated on rows. A list of expressions is evaluated one after another, each over the results
-- before it, so that nothing is computed twice.
use Rattle.std.proofs.lemmas.Bool.Decides.{nat_tests}
use Rattle.std.proofs.Common.{◌≡◌, ℕ, zero, suc, ◌≤◌, true, ◌&&◌, List, [], ◌∷◌, ◌++◌, map, get_or, refl, ap, ◌∙◌, ap₂, add-one, arith}
use mathlib.Core.Path.{fun_ext}
use Rattle.std.proofs.lemmas.Bool.{and_parts}
use Rattle.rows.proofs.Any.{any_some, any_from}
use Rattle.relations.specs.Algebra.{Set, Rel, any, empty, union, inter, diff, inverse, seq, paths, plus, opt, product, from, to}
use Rattle.relations.specs.Table.{On, via}
use Rattle.relations.proofs.Tables.{both_same, on_at}
use Rattle.relations.proofs.Ranges.{on_empty, on_identity, on_either, on_both, on_less, on_from, on_to}
use Rattle.relations.proofs.Turns.{on_inverse}
use Rattle.relations.proofs.Joins.{via_paths}
use Rattle.relations.proofs.Closure.{on_paths, plus_enough}
use Rattle.worked.proofs.Rows.{Rows, tab, look, tab_is}

-- ---- expressions

pub data Exp : Type 0 where
  -- the relation of a number
  At : ℕ → Exp
  Or : Exp → Exp → Exp
  And : Exp → Exp → Exp
  Less : Exp → Exp → Exp
  Then : Exp → Exp → Exp
  Back : Exp → Exp
  Closed : Exp → Exp
  Maybe : Exp → Exp
  From : Set → Exp → Exp
  To : Exp → Set → Exp
  -- the pairs from the one set to the other
  Across : Exp → Set → Set → Exp

-- what an expression means on n events, over relations by number
unfoldable pub mean : ℕ → List Rel → Exp → Rel
mean n ρ (At i) = get_or ρ i empty
mean n ρ (Or e f) = union (mean n ρ e) (mean n ρ f)
mean n ρ (And e f) = inter (mean n ρ e) (mean n ρ f)
mean n ρ (Less e f) = diff (mean n ρ e) (mean n ρ f)
mean n ρ (Then e f) = seq (mean n ρ e) (mean n ρ f)
mean n ρ (Back e) = inverse (mean n ρ e)
mean n ρ (Closed e) = plus (mean n ρ e)
mean n ρ (Maybe e) = opt n (mean n ρ e)
mean n ρ (From s e) = from s (mean n ρ e)
mean n ρ (To e s) = to (mean n ρ e) s
mean n ρ (Across e s t) = inter (mean n ρ e) (product s t)

-- ---- its rows

-- a step and a step, that meet below n
unfoldable pub meet : ℕ → Rel → Rel → Rel
meet n r s a b = any n (λ c. r a c && s c b)

-- the first k rounds of the closure
unfoldable pub closing : ℕ → ℕ → Rows → Rows
closing n zero t = t
closing n (suc k) t = let u = closing n k t in tab n (via k (look u))

unfoldable pub eval : ℕ → List Rows → Exp → Rows
eval n τ (At i) = get_or τ i []
eval n τ (Or e f) = tab n (union (look (eval n τ e)) (look (eval n τ f)))
eval n τ (And e f) = tab n (inter (look (eval n τ e)) (look (eval n τ f)))
eval n τ (Less e f) = tab n (diff (look (eval n τ e)) (look (eval n τ f)))
eval n τ (Then e f) = tab n (meet n (look (eval n τ e)) (look (eval n τ f)))
eval n τ (Back e) = tab n (inverse (look (eval n τ e)))
eval n τ (Closed e) = closing n n (eval n τ e)
eval n τ (Maybe e) = tab n (opt n (look (eval n τ e)))
eval n τ (From s e) = tab n (from s (look (eval n τ e)))
eval n τ (To e s) = tab n (to (look (eval n τ e)) s)
eval n τ (Across e s t) = tab n (inter (look (eval n τ e)) (product s t))

-- ---- rows that are those of a relation on n events

pub record Holds (n : ℕ) (t : Rows) (r : Rel) : Type 0 where
  pub same : look t ≡ r
  pub within : On n r

-- the rows of what is equal to r
pub tabbed : (n : ℕ) (q r : Rel) → q ≡ r → On n r → Holds n (tab n q) r
tabbed n q r e on = record { same = tab_is n q (on_at n q r e on) ∙ e; within = on }

module _ (n : ℕ) (r s : Rel) where
  on_then : On n r → On n s → On n (seq r s)
  unfolding seq
  on_then f g a b h = grind (arith, nat_tests, any_some)

  meet_is : n ≤ 64 → On n r → meet n r s ≡ seq r s
  unfolding meet seq
  meet_is few on = fun_ext λ a. fun_ext λ b. both_same _ _ (there a b) (back a b)
    where
      there : (a b : ℕ) → any n (λ c. r a c && s c b) ≡ true → any 64 (λ c. r a c && s c b) ≡ true
      there a b h = let e = any_some n _ h in any_from 64 e.0 _ (omega (arith, e.1)) e.2

      back : (a b : ℕ) → any 64 (λ c. r a c && s c b) ≡ true → any n (λ c. r a c && s c b) ≡ true
      back a b h =
          let e = any_some 64 _ h in
          let p = and_parts _ _ e.2 in
          any_from n e.0 _ (on a e.0 p.0).1 e.2

on_opt : (n : ℕ) (r : Rel) → On n r → On n (opt n r)
unfolding opt
on_opt n r on = on_either n r _ on (on_identity n)

on_plus : (n : ℕ) (r : Rel) → On n r → On n (plus r)
unfolding plus
on_plus n r on = on_paths 64 n r on

closing_is : (n k : ℕ) (t : Rows) (r : Rel) → Holds n t r → Holds n (closing n k t) (paths k r)
unfolding closing paths
closing_is n zero t r h = h
closing_is n (suc k) t r h =
    let e : via k (look (closing n k t)) ≡ paths (suc k) r = via_paths k r (look (closing n k t)) (closing_is n k t r h).same ∙ ap (λ (m : ℕ). paths m r) (add-one k) in
    tabbed n (via k (look (closing n k t))) (paths (suc k) r) e (on_paths (suc k) n r h.within)

pub closed_holds : (n : ℕ) → n ≤ 64 → (t : Rows) (r : Rel) → Holds n t r → Holds n (closing n n t) (plus r)
closed_holds n few t r h =
    record { same = (closing_is n n t r h).same ∙ plus_enough n n r (omega arith) few h.within; within = on_plus n r h.within }

-- ---- rows by number that are those of relations by number

pub data Agree (n : ℕ) : List Rows → List Rel → Type 0 where
  none : Agree n [] []
  more : {t : Rows} {r : Rel} {τ : List Rows} {ρ : List Rel} → Holds n t r → Agree n τ ρ → Agree n (t ∷ τ) (r ∷ ρ)

blank_holds : (n : ℕ) → Holds n [] empty
unfolding look empty
blank_holds n = record { same = refl; within = on_empty n }

pub agree_at : {n : ℕ} {τ : List Rows} {ρ : List Rel} → Agree n τ ρ → (i : ℕ) → Holds n (get_or τ i []) (get_or ρ i empty)
agree_at {n} none i = blank_holds n
agree_at (more h g) zero = h
agree_at (more h g) (suc i) = agree_at g i

agree_next : {n : ℕ} {τ : List Rows} {ρ : List Rel} {t : Rows} {r : Rel} → Agree n τ ρ → Holds n t r → Agree n (τ ++ (t ∷ [])) (ρ ++ (r ∷ []))
agree_next none h = more h none
agree_next (more k g) h = more k (agree_next g h)

-- what each expression is worth
module _ (n : ℕ) (few : n ≤ 64) {τ : List Rows} {ρ : List Rel} (g : Agree n τ ρ) where
  pub eval_holds : (e : Exp) → Holds n (eval n τ e) (mean n ρ e)
  unfolding eval mean
  eval_holds (At i) = agree_at g i
  eval_holds (Or e f) =
      let p = eval_holds e in let q = eval_holds f in
      tabbed n _ _ (ap₂ union p.same q.same) (on_either n _ _ p.within q.within)
  eval_holds (And e f) =
      let p = eval_holds e in let q = eval_holds f in tabbed n _ _ (ap₂ inter p.same q.same) (on_both n _ _ p.within)
  eval_holds (Less e f) =
      let p = eval_holds e in let q = eval_holds f in tabbed n _ _ (ap₂ diff p.same q.same) (on_less n _ _ p.within)
  eval_holds (Then e f) =
      let p = eval_holds e in let q = eval_holds f in
      tabbed n _ _ (ap₂ (meet n) p.same q.same ∙ meet_is n _ _ few p.within) (on_then n _ _ p.within q.within)
  eval_holds (Back e) = let p = eval_holds e in tabbed n _ _ (ap inverse p.same) (on_inverse n _ p.within)
  eval_holds (Closed e) = closed_holds n few _ _ (eval_holds e)
  eval_holds (Maybe e) = let p = eval_holds e in tabbed n _ _ (ap (opt n) p.same) (on_opt n _ p.within)
  eval_holds (From s e) = let p = eval_holds e in tabbed n _ _ (ap (from s) p.same) (on_from n s _ p.within)
  eval_holds (To e s) = let p = eval_holds e in tabbed n _ _ (ap (λ (r : Rel). to r s) p.same) (on_to n _ s p.within)
  eval_holds (Across e s t) =
      let p = eval_holds e in tabbed n _ _ (ap (λ (r : Rel). inter r (product s t)) p.same) (on_both n _ _ p.within)

-- ---- programs

unfoldable pub means : ℕ → List Rel → List Exp → List Rel
means n ρ [] = ρ
means n ρ (e ∷ es) = means n (ρ ++ (mean n ρ e ∷ [])) es

unfoldable pub run : ℕ → List Rows → List Exp → List Rows
run n τ [] = τ
run n τ (e ∷ es) = run n (τ ++ (eval n τ e ∷ [])) es

pub run_agrees : (n : ℕ) → n ≤ 64 → (es : List Exp) {τ : List Rows} {ρ : List Rel} → Agree n τ ρ → Agree n (run n τ es) (means n ρ es)
unfolding run means
run_agrees n few [] g = g
run_agrees n few (e ∷ es) g = run_agrees n few es (agree_next g (eval_holds n few g e))

-- relations that are all on n events, tabulated
abbrev pub AllOn : ℕ → List Rel → Type 0
AllOn n [] = Unit {0}
AllOn n (r ∷ ρ) = On n r × AllOn n ρ

pub agree_first : (n : ℕ) (ρ : List Rel) → AllOn n ρ → Agree n (map (tab n) ρ) ρ
agree_first n [] on = none
agree_first n (r ∷ ρ) on = more (tabbed n r r refl on.0) (agree_first n ρ on.1)
