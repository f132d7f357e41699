-- Executions that are written down: that they are well formed is computed, with the closure of coherence on rows.
use Rattle.std.proofs.Common.{◌≡◌, ℕ, ◌+◌, ◌<◌, ◌≤◌, Bool, true, cond, not, ◌&&◌, eqb, ltb, List, [], ◌∷◌, length, None, Option, sym, refl, ap, ◌∙◌, ⊎_elim, arith}
use Rattle.std.proofs.lemmas.Bool.{and_parts, or_cases, eqb-true, ltb-true, false≢true}
use Rattle.rows.specs.Row.{any}
use Rattle.relations.specs.Algebra.{Rel, plus}
use Rattle.relations.specs.Table.{On}
use Rattle.executions.specs.declared.events.Event.{Event}
use Rattle.executions.specs.declared.faults.Cause.TheVariants.{CoherenceNotTotal}
use Rattle.executions.specs.declared.faults.Fault.{Fault}
use Rattle.executions.specs.declared.ties.Relation.{Relation}
use Rattle.executions.specs.declared.ties.Relation.TheVariants.{Co}
use Rattle.executions.specs.Execution.{Execution, count}
use Rattle.executions.specs.Ties.{relation_number}
use Rattle.wellformed.specs.Events.{writes, co}
use Rattle.wellformed.specs.Faults.{or_else, first, fault_if, first_fault, count_fault, events_fault, ties_fault, reads_fault, initials_fault, threads_fault}
use Rattle.wellformed.specs.WellFormed.{WellFormed}
use Rattle.wellformed.proofs.Deciding.{formed}
use Rattle.worked.specs.Examples.{Tie, ties_to, listed, execution}
use Rattle.worked.proofs.Rows.{tab, look}
use Rattle.worked.proofs.Programs.{tabbed, closing, closed_holds}

-- ---- the ties are between the first n events

unfoldable pub placed : ℕ → List Tie → Bool
placed n [] = true
placed n (t ∷ ts) = (ltb t.source n && ltb t.target n) && placed n ts

listed_on : (n : ℕ) (ts : List Tie) → placed n ts ≡ true → (r : Relation) → On n (listed ts r)
unfolding placed listed
listed_on n [] p r a b h = absurd (false≢true h)
listed_on n (t ∷ ts) p r a b h = ⊎_elim first_tie (listed_on n ts k.1 r a b) (or_cases (ties_to t r a b) (listed ts r a b) h)
  where
    k : ((ltb t.source n && ltb t.target n) ≡ true) × (placed n ts ≡ true)
    k = and_parts (ltb t.source n && ltb t.target n) (placed n ts) p

    first_tie : ties_to t r a b ≡ true → (a < n) × (b < n)
    first_tie e =
        let m = and_parts (ltb t.source n) (ltb t.target n) k.0 in
        let v = and_parts (eqb t.source a) (eqb t.target b) (and_parts (eqb (relation_number t.relation) (relation_number r)) _ e).1 in
        (omega (arith, eqb-true t.source a v.0, ltb-true t.source n m.0), omega (arith, eqb-true t.target b v.1, ltb-true t.target n m.1))

-- ---- the check, with q for the closure of coherence

unfoldable pub orders_by : Rel → Execution → Option Fault
orders_by q x = first 16 (λ k. fault_if (any (count x) (λ v. any (count x) (λ w.
    writes x (k + 1) v && (writes x (k + 1) w && cond (eqb v w) (q v v) (cond (q v w) (q w v) (not (q w v))))))) CoherenceNotTotal (k + 1))

unfoldable pub fault_by : Rel → Execution → Option Fault
fault_by q x =
    or_else (count_fault x)
    (or_else (events_fault x)
    (or_else (ties_fault x)
    (or_else (reads_fault x)
    (or_else (initials_fault x)
    (or_else (orders_by q x)
    (threads_fault x))))))

fault_is : (x : Execution) → fault_by (plus (co x)) x ≡ first_fault x
unfolding fault_by orders_by
fault_is x = refl

-- on rows
unfoldable pub row_fault : Execution → Option Fault
row_fault x = fault_by (look (closing (count x) (count x) (tab (count x) (co x)))) x

pub faultless_by : (x : Execution) → count x ≤ 64 → On (count x) (co x) → row_fault x ≡ None → first_fault x ≡ None
unfolding row_fault
faultless_by x few on e =
    let closed = closed_holds (count x) few _ _ (tabbed (count x) (co x) (co x) refl on) in
    sym (fault_is x) ∙ ap (λ (q : Rel). fault_by q x) (sym closed.same) ∙ e

pub written_formed : (es : List Event) (ts : List Tie) → length es ≤ 64 → placed (length es) ts ≡ true → row_fault (execution es ts) ≡ None
    → WellFormed (execution es ts)
written_formed es ts few p e =
    formed (execution es ts) (λ r a b h. let k = listed_on (length es) ts p r a b h in (k.0, omega (arith, k.1)))
    (faultless_by (execution es ts) few (listed_on (length es) ts p Co) e)
