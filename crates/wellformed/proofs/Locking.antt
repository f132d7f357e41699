-- The walk through the locks of a thread.
use Rattle.std.proofs.Common.{◌≡◌, ℕ, zero, suc, pred, ◌+◌, ◌-◌, ◌^◌, ◌<◌, ◌≤◌, min, Bool, cond, ◌&&◌, eqb, ltb, Some, None, Option, sym, refl, ap, ◌∙◌, ap₂, add-one, arith}
use Rattle.std.proofs.lemmas.Bool.{cond_both}
use Rattle.executions.specs.declared.events.Event.{Event}
use Rattle.executions.specs.declared.faults.Cause.TheVariants.{LocksNotPaired}
use Rattle.executions.specs.declared.faults.Fault.{Fault}
use Rattle.executions.specs.Execution.{Execution, count, event_at}
use Rattle.wellformed.specs.Events.{lock_of, unlock_of, locks, unlocks, depth}
use Rattle.wellformed.specs.Faults.{or_else, first, fault_if, unlock_fault, last_lock, thread_fault}
use Rattle.wellformed.proofs.First.{first_stop}

pub depth_none : (x : Execution) (t : ℕ) → 0 ≡ depth x t 0
unfolding depth
depth_none x t = refl

-- there are no more of them than events
pub depth_few : (x : Execution) (t i : ℕ) → depth x t i ≤ i
unfolding depth
depth_few x t zero = omega arith
depth_few x t (suc i) =
    let before : depth x t i ≤ i = depth_few x t i in
    cond_both (locks x t i) _ _ (λ (k : ℕ). k ≤ suc i) (λ _. omega arith)
    (λ _. cond_both (unlocks x t i) _ _ (λ (k : ℕ). k ≤ suc i) (λ _. omega arith) (λ _. omega arith))

-- so that the walk's number never stops at the largest
pub depth_more : (x : Execution) (t i : ℕ) (e : Event) (d d' : ℕ) → i < 64 → e ≡ event_at x i → d ≡ depth x t i
    → d' ≡ cond (lock_of t e) (min (d + 1) (2 ^ 64 - 1)) (cond (unlock_of t e) (pred d) d) → d' ≡ depth x t (i + 1)
unfolding depth
depth_more x t i e d d' few p q h =
    let room : min (d + 1) (2 ^ 64 - 1) ≡ suc d = omega (arith, depth_few x t i) in
    rw add-one (h ∙ rw room refl ∙ ap₂ (λ (u : Event) (v : ℕ). cond (lock_of t u) (suc v) (cond (unlock_of t u) (pred v) v)) p q)

pub lock_none : (x : Execution) (t : ℕ) → 0 ≡ last_lock x t 0
unfolding last_lock
lock_none x t = refl

pub lock_more : (x : Execution) (t i : ℕ) (e : Event) (d o o' : ℕ) → e ≡ event_at x i → d ≡ depth x t i → o ≡ last_lock x t i
    → o' ≡ cond (lock_of t e && eqb d 0) i o → o' ≡ last_lock x t (i + 1)
unfolding last_lock
lock_more x t i e d o o' p q l h =
    rw add-one (h ∙ ap₂ (λ (u : Event) (v : ℕ). cond (lock_of t u && eqb v 0) i o) p q ∙ ap (λ (k : ℕ). cond (lock_of t (event_at x i) && eqb (depth x t i) 0) i k) l)

pub lock_within : (b : Bool) (i o o' : ℕ) → o ≤ i → o' ≡ cond b i o → o' ≤ i + 1
lock_within b i o o' h e = rw e (cond_both b i o (λ (k : ℕ). k ≤ i + 1) (λ _. omega arith) (λ _. omega arith))

pub unlock_is : (x : Execution) (t i : ℕ) (e : Event) (d : ℕ) (r : Option Fault) → e ≡ event_at x i → d ≡ depth x t i
    → r ≡ fault_if (unlock_of t e && eqb d 0) LocksNotPaired i → unlock_fault x t i ≡ r
unlock_is x t i e d r p q h = sym (h ∙ ap₂ (λ (u : Event) (v : ℕ). fault_if (unlock_of t u && eqb v 0) LocksNotPaired i) p q)

-- an unlock at fault is the thread's fault
pub unlock_first : (x : Execution) (t i : ℕ) (g : Fault) → i < count x → first i (unlock_fault x t) ≡ None → unlock_fault x t i ≡ Some g → Some g ≡ thread_fault x t
unlock_first x t i g h before here = rw (← first_stop (unlock_fault x t) i (count x) g h before here) refl

-- else it is the lock that stays open, if one does
pub open_first : (x : Execution) (t i d o : ℕ) (r : Option Fault) → i ≡ count x → first i (unlock_fault x t) ≡ None → d ≡ depth x t i → o ≡ last_lock x t i
    → r ≡ fault_if (ltb 0 d) LocksNotPaired o → r ≡ thread_fault x t
open_first x t i d o r e before q l h =
    h ∙ ap₂ (λ (u v : ℕ). fault_if (ltb 0 u) LocksNotPaired v) q l
    ∙ sym (ap (λ (w : Option Fault). or_else w (fault_if (ltb 0 (depth x t i)) LocksNotPaired (last_lock x t i))) before)
    ∙ ap (λ (k : ℕ). or_else (first k (unlock_fault x t)) (fault_if (ltb 0 (depth x t k)) LocksNotPaired (last_lock x t k))) e
