-- What the tables hold after a call, and that nothing stands past the case.
use Rattle.std.proofs.lemmas.Bool.Decides.{nat_tests}
use Rattle.std.proofs.Common.{◌≡◌, ℕ, ◌+◌, ◌<◌, ◌≤◌, Bool, true, false, cond, not, List, [], ◌++◌, length, get_or, take, set, replicate, Ok, sym, refl, ap, ◌∙◌, subst, ⊎_elim, arith, Some, None}
use mathlib.Core.Path.{fun_ext}
use Rattle.std.proofs.lemmas.List.{take_more_set, get_or-set_other, length-take-le, get_or_append_left, get_or-replicate, length-replicate}
use Rattle.std.proofs.lemmas.Bool.{cases_lt}
use Rattle.executions.specs.declared.events.Event.{Event}
use Rattle.executions.specs.declared.faults.Fault.{Fault}
use Rattle.executions.specs.declared.ties.Relation.{Relation}
use Rattle.executions.specs.Events.{in_range}
use Rattle.executions.specs.Execution.{unused}
use Rattle.executions.specs.Words.{ties_of}
use Rattle.executions.proofs.Words.{word_within, no_word, no_event}
use Rattle.tables.specs.Plain.{Plain, Open, blank, short, entered, enter_plain}
use Rattle.tables.specs.Tables.{Tables, plain_of, Exact, Represents, Does}

-- a call that keeps the tables exact does on exact tables what it does on any
pub does : {A : Type 0} (step : Plain → Plain × A) (t t' : Tables) (r : A) → (plain_of t', r) ≡ step (plain_of t) → (Exact t → Exact t') → Does step t t' r
does step t t' r e keeps = grind (arith, nat_tests)

-- tables that are not too short
pub long : (records words : ℕ) → short records words ≡ false → (64 ≤ records) × (384 ≤ words)
long records words e = grind (arith, nat_tests)

-- what a test that refused nothing has shown
pub allowed : (s : Bool) (f : Fault) → None ≡ cond s (Some f) None → s ≡ false
allowed true f e = let z : ◌≡◌ {A = ℕ} 0 1 = cc in absurd (omega arith)
allowed false f e = refl

-- ---- open

cleared_word : (ws : List ℕ) (i : ℕ) → i < 384 → get_or (replicate 384 0 ++ ws) i 0 ≡ 0
cleared_word ws i h =
    get_or_append_left (replicate 384 0) ws 0 i (subst (λ (n : ℕ). i < n) (sym (length-replicate {A = ℕ} 384 0)) h) ∙ get_or-replicate 384 i 0 0 h

pub no_ties : (ws : List ℕ) (r : Relation) (a b : ℕ) → ties_of (replicate 384 0 ++ ws) r a b ≡ false
no_ties ws r a b =
    ⊎_elim (λ h. no_word _ r a b (cleared_word ws _ (word_within r a h))) (λ h. no_event _ r a b h) (cases_lt a 64)

abbrev pub zeros : List Event → List ℕ → Tables
zeros rs ws = record { count = 0; records = replicate 64 unused ++ rs; words = replicate 384 0 ++ ws }

cleared_record : (rs : List Event) (i : ℕ) → i < 64 → get_or (replicate 64 unused ++ rs) i unused ≡ unused
cleared_record rs i h =
    get_or_append_left (replicate 64 unused) rs unused i (subst (λ (n : ℕ). i < n) (sym (length-replicate {A = Event} 64 unused)) h)
    ∙ get_or-replicate 64 i unused unused h

-- tables of zeros hold the blank case
pub holds_blank : (rs : List Event) (ws : List ℕ) → Represents (zeros rs ws) blank
holds_blank rs ws = (
  ap (λ ts. record { execution = record { events = []; ties = ts }; mark = Open }) (fun_ext λ r. fun_ext λ a. fun_ext λ b. no_ties ws r a b),
  record {
    other_records = λ i h k. cleared_record rs i k;
    other_words = λ r a h k. cleared_word ws _ (word_within r a k);
    other_bits = λ r a b h k. no_ties ws r a b;
  },
)

-- ---- enter

abbrev pub with_record : Tables → Event → Tables
with_record t e = record { count = t.count + 1; records = set t.records t.count e; words = t.words }

enter_ok : {A : Type 0} (s f i : Bool) (x y z w : A) → s ≡ false → f ≡ false → i ≡ true → w ≡ cond s x (cond f y (cond (not i) z w))
enter_ok s f i x y z w p q r = rw (p, q, r) refl

module _ (t : Tables) (e : Event) (room : t.count < 64) (n : ℕ) (s : short (length t.records) n ≡ false) where
  records : 64 ≤ length t.records
  records = (long (length t.records) n s).0

  counted : length (take t.count t.records) ≡ t.count
  counted = length-take-le t.count t.records (omega (arith, records))

  holds : plain_of (with_record t e) ≡ entered e (plain_of t)
  holds = grind (arith, nat_tests, take_more_set, records)

  stays_exact : Exact t → Exact (with_record t e)
  stays_exact x = grind (arith, nat_tests, get_or-set_other, records, no_word)

  -- an event that is entered
  pub enters : in_range e ≡ true → Does (enter_plain (length t.records) n e) t (with_record t e) (Ok t.count)
  enters i = grind (arith, nat_tests, does, records, holds, counted, enter_ok, stays_exact)
