-- Steps of a run from the contracts of the calls.
use Rattle.std.proofs.Common.{◌≡◌, ℕ, ◌≤◌, Bool, true, false, cond, List, length, take, Some, None, Ok, Err, Option, Result, sym, refl, ap, ◌∙◌, subst, arith}
use Rattle.std.proofs.lemmas.List.{length-take-le}
use Rattle.executions.specs.declared.events.Event.{Event}
use Rattle.executions.specs.declared.faults.Cause.TheVariants.{TooShort}
use Rattle.executions.specs.declared.faults.Fault.{Fault}
use Rattle.sources.specs.Source.{bounded}
use Rattle.wellformed.specs.Faults.{first_fault}
use Rattle.tables.specs.Plain.{Plain, Sealed, marked, short, check_refusal, seal_plain}
use Rattle.tables.specs.Tables.{Tables, plain_of, Exact, Does}

module _ {A : Type 0} (f : Plain → Plain × A) (before after : Tables) (answer : A) (d : Does f before after answer) where
  pub stays_exact : Exact before → Exact after
  stays_exact e = (d.on_exact (plain_of before) (refl, e)).0.1

-- ---- sealing

-- a case that is sealed has no fault
unfaulty : (p : Plain) (o : Option Fault) → (elim o as (λ _. Plain × Result (Unit {0}) Fault) [ None ↦ (marked Sealed p, Ok tt) | Some g ↦ (p, Err g) ]).1 ≡ Ok tt → o ≡ None
unfaulty p None e = refl
unfaulty p (Some g) e = let z : ◌≡◌ {A = ℕ} 0 1 = cc in absurd (omega arith)

sealed_none : (b : Bool) (p : Plain) (f : Fault) (o : Option Fault)
    → (cond b (p, Err f) (elim o as (λ _. Plain × Result (Unit {0}) Fault) [ None ↦ (marked Sealed p, Ok tt) | Some g ↦ (p, Err g) ])).1 ≡ Ok tt → o ≡ None
sealed_none true p f o e = let z : ◌≡◌ {A = ℕ} 0 1 = cc in absurd (omega arith)
sealed_none false p f o e = unfaulty p o e

pub seals_none : (records words : ℕ) (p q : Plain) → seal_plain records words p ≡ (q, Ok tt) → first_fault (bounded p.execution) ≡ None
seals_none records words p q e = sealed_none (short records words) p (check_refusal TooShort 0) (first_fault (bounded p.execution)) (ap (λ (r : Plain × Result (Unit {0}) Fault). r.1) e)

-- two counts that take the same records of a table are the same
pub same_count : (m n : ℕ) (rs : List Event) → m ≤ 64 → n ≤ 64 → 64 ≤ length rs → take m rs ≡ take n rs → m ≡ n
same_count m n rs l k room e = sym (length-take-le m rs (omega arith)) ∙ ap length e ∙ length-take-le n rs (omega arith)

pub exact_same : (t u : Tables) → t.count ≡ u.count → t.records ≡ u.records → t.words ≡ u.words → Exact t → Exact u
exact_same t u e f g = subst Exact (λ i. record { count = e i; records = f i; words = g i })

-- sealing changes nothing but the mark
same_marked : (p q : Plain) (o : Option Fault) → (elim o as (λ _. Plain × Result (Unit {0}) Fault) [ None ↦ (marked Sealed p, Ok tt) | Some g ↦ (p, Err g) ]).0 ≡ q → q.execution ≡ p.execution
same_marked p q None e = sym (ap (λ (r : Plain). r.execution) e)
same_marked p q (Some g) e = sym (ap (λ (r : Plain). r.execution) e)

same_either : (b : Bool) (p q : Plain) (f : Fault) (o : Option Fault)
    → (cond b (p, Err f) (elim o as (λ _. Plain × Result (Unit {0}) Fault) [ None ↦ (marked Sealed p, Ok tt) | Some g ↦ (p, Err g) ])).0 ≡ q → q.execution ≡ p.execution
same_either true p q f o e = sym (ap (λ (r : Plain). r.execution) e)
same_either false p q f o e = same_marked p q o e

pub seals_same : (records words : ℕ) (p q : Plain) → seal_plain records words p ≡ (q, Ok tt) → q.execution ≡ p.execution
seals_same records words p q e = same_either (short records words) p q (check_refusal TooShort 0) (first_fault (bounded p.execution)) (ap (λ (r : Plain × Result (Unit {0}) Fault). r.0) e)
