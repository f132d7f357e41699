-- The rules, decided on the rows of an execution.
use Rattle.std.proofs.lemmas.Bool.Decides.{nat_tests}
use Rattle.std.proofs.Common.{◌≡◌, ℕ, ◌≤◌, Bool, true, false, List, [], ◌∷◌, get_or, refl, arith}
use Rattle.std.proofs.lemmas.Bool.{both_ways}
use Rattle.rows.specs.Row.{any}
use Rattle.rows.proofs.Any.{any_false_at}
use Rattle.relations.specs.Algebra.{Rel, to}
use Rattle.executions.specs.declared.sorts.Sort.TheVariants.{SyncRcu}
use Rattle.executions.specs.Execution.{Execution, count}
use Rattle.basis.specs.Meaning.{basis, of_sort}
use Rattle.grace.specs.Scene.{Scene, gp}
use Rattle.grace.specs.Law.{Walk, here, by_period, by_section}
use Rattle.grace.specs.Law as grace
use Rattle.grace.proofs.Closure.{seq_parts}
use Rattle.wellformed.specs.WellFormed.{WellFormed}
use Rattle.lkmm.specs.Rules.{Rcu, scene}
use Rattle.worked.specs.Worked.{Report, kept, Says, Reported}
use Rattle.basis.proofs.Members.{sort_inside}
use Rattle.worked.proofs.Modelled.{rows, modelled}
use Rattle.worked.proofs.Tests.{verdict, loops, some_pair, emptiness, acyclicity}

-- ---- without periods Rcu is kept

module _ (x : Scene) (f : Rel) (none : (s : ℕ) → x.period s ≡ true → ⊥) where
  no_gp : (a b : ℕ) → gp x a b ≡ true → ⊥
  unfolding gp to
  no_gp a b h = grind (arith, nat_tests, seq_parts)

  no_periods : {p q a b : ℕ} → Walk x f p q a b → p ≡ 0
  no_periods here = refl
  no_periods (by_period {a = a} e w) = let p = seq_parts _ _ e in absurd (no_gp a p.0 p.2)
  no_periods (by_section e w) = no_periods w

  periodless : grace.Rcu x f
  periodless p q a w some enough = let z = no_periods w in omega arith

-- an execution with no sync-rcu
unfoldable pub synced : Execution → Bool
synced x = any (count x) (of_sort SyncRcu x)

pub unsynced_rcu : (x : Execution) → synced x ≡ false → Rcu (basis x)
unfolding scene basis synced
unsynced_rcu x e = periodless (scene (basis x)) (scene (basis x)).strong
    (λ s h. both_ways _ (any_false_at (count x) _ e s (sort_inside x SyncRcu s h)) h)

-- ---- the other four

unfoldable pub verdicts : Execution → List Report
verdicts x =
    verdict (loops (count x) (rows x 0 0 17)) ∷ verdict (some_pair (count x) (rows x 0 0 18))
    ∷ verdict (loops (count x) (rows x 0 0 35)) ∷ verdict (loops (count x) (rows x 0 0 38)) ∷ []

decided : (x : Execution) → count x ≤ 64 → WellFormed x → {rcu : Report} → Says rcu (Rcu (basis x))
    → Reported x (get_or (verdicts x) 0 kept) (get_or (verdicts x) 1 kept) (get_or (verdicts x) 2 kept) (get_or (verdicts x) 3 kept) rcu
unfolding verdicts
decided x few formed r =
    let m = modelled x few 0 0 in
    record {
      well_formed = formed;
      on_scpv = acyclicity (count x) few _ _ _ m.per_place_rows m.per_place_closed;
      on_at = emptiness (count x) _ _ m.broken_rmw_rows;
      on_hb = acyclicity (count x) few _ _ _ m.hb_rows m.hb_closed;
      on_pb = acyclicity (count x) few _ _ _ m.pb_rows m.pb_closed;
      on_rcu = r;
    }

-- what they are is computed
pub ruled : (x : Execution) → WellFormed x → {rcu : Report} → Says rcu (Rcu (basis x)) → {scpv at hb pb : Report}
    → verdicts x ≡ scpv ∷ at ∷ hb ∷ pb ∷ [] → Reported x scpv at hb pb rcu
ruled x formed {rcu} r e = grind (arith, nat_tests, decided)

-- without periods
pub ruled_unsynced : (x : Execution) → WellFormed x → synced x ≡ false → {scpv at hb pb : Report}
    → verdicts x ≡ scpv ∷ at ∷ hb ∷ pb ∷ [] → Reported x scpv at hb pb kept
ruled_unsynced x formed u e = ruled x formed {rcu = kept} (unsynced_rcu x u) e
