-- What is known of an entry that was accepted.
use Rattle.std.proofs.Common.{◌≡◌, ℕ, ◌<◌, Bool, true, false, cond, not, ltb, leb, Some, None, Ok, Err, Option, Result, sym, refl, ap, ◌∙◌, arith}
use Rattle.std.proofs.lemmas.Bool.{leb-false, ltb-true, not-false}
use Rattle.executions.specs.declared.events.Event.{Event}
use Rattle.executions.specs.declared.faults.Cause.TheVariants.{TooShort, TooManyEvents, OutOfRange, NoSuchEvent, NoSuchRelation, DoesNotFit, OverLimit}
use Rattle.executions.specs.declared.faults.Fault.{Fault}
use Rattle.executions.specs.declared.ties.Relation.{Relation}
use Rattle.executions.specs.Events.{in_range}
use Rattle.executions.specs.Execution.{count, event_at}
use Rattle.executions.specs.Ties.{relation_number, relation_of, fits}
use Rattle.tables.specs.Plain.{Plain, short, refusal, refused, entered, enter_plain, taken, tied, tie_known, tie_plain}
use Rattle.executions.proofs.Words.{relation_found}

-- a test whose failure is a refusal was passed
pub record Passed {A : Type 0} (t : Bool) (x y : Plain × Result A Fault) (a : A) : Type 0 where
  pub passed : t ≡ false
  pub then_ok : y.1 ≡ Ok a
  pub same : cond t x y ≡ y

passed : {A : Type 0} (t : Bool) (x y : Plain × Result A Fault) (a : A) (f : Fault) → x.1 ≡ Err f → (cond t x y).1 ≡ Ok a → Passed t x y a
passed true x y a f e h = let z : ◌≡◌ {A = ℕ} 0 1 = cc in absurd (omega arith)
passed false x y a f e h = record { passed = refl; then_ok = h; same = refl }

pub record Enters (records words : ℕ) (e : Event) (p : Plain) : Type 0 where
  pub room : count p.execution < 64
  pub range : in_range e ≡ true
  pub after : (enter_plain records words e p).0 ≡ entered e p

pub enter_accepted : (records words : ℕ) (e : Event) (p : Plain) (n : ℕ) → (enter_plain records words e p).1 ≡ Ok n → Enters records words e p
enter_accepted records words e p n h =
    let last : Plain × Result ℕ Fault = (entered e p, Ok (count p.execution)) in
    let inner = cond (not (in_range e)) (refused p OutOfRange (count p.execution)) last in
    let outer = cond (leb 64 (count p.execution)) (refused p TooManyEvents 64) inner in
    let a = passed (short records words) (refused p TooShort 0) outer n _ refl h in
    let b = passed (leb 64 (count p.execution)) (refused p TooManyEvents 64) inner n _ refl a.then_ok in
    let c = passed (not (in_range e)) (refused p OutOfRange (count p.execution)) last n _ refl b.then_ok in
    record {
      room = leb-false 64 (count p.execution) b.passed;
      range = not-false (in_range e) c.passed;
      after = ap (λ q. q.0) (a.same ∙ b.same ∙ c.same);
    }

-- ---- ties

-- tie, with its tests in one row
abbrev pub tie_tests : ℕ → ℕ → Relation → ℕ → ℕ → Plain → Plain × Result (Unit {0}) Fault
tie_tests records words r a b p =
    cond (short records words) (refused p TooShort 0)
    (cond (not (ltb a (count p.execution))) (refused p NoSuchEvent a)
    (cond (not (ltb b (count p.execution))) (refused p NoSuchEvent b)
    (tie_known r a b p)))

pub tie_row : (records words : ℕ) (r : Relation) (a b : ℕ) (p : Plain) → tie_plain records words (relation_number r) a b p ≡ tie_tests records words r a b p
tie_row records words r a b p =
    go (relation_of (relation_number r)) (relation_found r) (short records words) (ltb a (count p.execution)) (ltb b (count p.execution))
  where
    go : (o : Option Relation) → o ≡ Some r → (s x y : Bool)
        → elim (cond s (Err (refusal TooShort 0)) (elim o as (λ _. Result Relation Fault) [
          | None ↦ Err (refusal NoSuchRelation (relation_number r))
          | Some q ↦ cond (not x) (Err (refusal NoSuchEvent a)) (cond (not y) (Err (refusal NoSuchEvent b)) (Ok q))
        ])) as (λ _. Plain × Result (Unit {0}) Fault) [
          | Err f ↦ (p, Err f)
          | Ok q ↦ tie_known q a b p
        ]
        ≡ cond s (refused p TooShort 0) (cond (not x) (refused p NoSuchEvent a) (cond (not y) (refused p NoSuchEvent b) (tie_known r a b p)))
    go None e s x y = let z : ◌≡◌ {A = ℕ} 0 1 = cc in absurd (omega arith)
    go (Some q) e true x y = refl
    go (Some q) e false false y = refl
    go (Some q) e false true false = refl
    go (Some q) e false true true = let same : q ≡ r = cc in ap (λ k. tie_known k a b p) same

pub record Ties (records words : ℕ) (r : Relation) (a b : ℕ) (p : Plain) : Type 0 where
  pub first : a < count p.execution
  pub second : b < count p.execution
  pub fit : fits r a (event_at p.execution a) b (event_at p.execution b) ≡ true
  pub free : taken (count p.execution) p.execution.ties r a b ≡ false
  pub after : (tie_plain records words (relation_number r) a b p).0 ≡ tied r a b p

pub tie_accepted : (records words : ℕ) (r : Relation) (a b : ℕ) (p : Plain) → (tie_plain records words (relation_number r) a b p).1 ≡ Ok tt → Ties records words r a b p
tie_accepted records words r a b p h =
    let n = count p.execution in
    let fit = fits r a (event_at p.execution a) b (event_at p.execution b) in
    let last : Plain × Result (Unit {0}) Fault = (tied r a b p, Ok tt) in
    let fifth = cond (taken n p.execution.ties r a b) (refused p OverLimit b) last in
    let fourth = cond (not fit) (refused p DoesNotFit a) fifth in
    let third = cond (not (ltb b n)) (refused p NoSuchEvent b) fourth in
    let second = cond (not (ltb a n)) (refused p NoSuchEvent a) third in
    let row = tie_row records words r a b p in
    let k1 = passed (short records words) (refused p TooShort 0) second tt _ refl (ap (λ q. q.1) (sym row) ∙ h) in
    let k2 = passed (not (ltb a n)) (refused p NoSuchEvent a) third tt _ refl k1.then_ok in
    let k3 = passed (not (ltb b n)) (refused p NoSuchEvent b) fourth tt _ refl k2.then_ok in
    let k4 = passed (not fit) (refused p DoesNotFit a) fifth tt _ refl k3.then_ok in
    let k5 = passed (taken n p.execution.ties r a b) (refused p OverLimit b) last tt _ refl k4.then_ok in
    record {
      first = ltb-true a n (not-false (ltb a n) k2.passed);
      second = ltb-true b n (not-false (ltb b n) k3.passed);
      fit = not-false fit k4.passed;
      free = k5.passed;
      after = ap (λ q. q.0) (row ∙ k1.same ∙ k2.same ∙ k3.same ∙ k4.same ∙ k5.same);
    }
