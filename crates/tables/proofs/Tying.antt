-- What tie and untie do to the ties that the words hold.
use Rattle.std.proofs.lemmas.Bool.Decides.{nat_tests}
use Rattle.std.proofs.Common.{◌≡◌, ℕ, ◌<◌, ◌≤◌, Bool, true, false, cond, not, ◌&&◌, ◌||◌, eqb, ltb, List, length, get_or, take, set, Ok, Err, Result, sym, refl, ap, ◌∙◌, subst, arith}
use mathlib.Core.Path.{fun_ext}
use Rattle.std.proofs.lemmas.List.{get_or-set_other, get_or-set_same, get_or-take, length-take-le}
use Rattle.std.proofs.lemmas.Bool.{lt-ltb}
use Rattle.rows.specs.Row.{Set, bit, adding, dropping}
use Rattle.rows.proofs.Bits.{and_true}
use Rattle.executions.specs.declared.events.Event.{Event}
use Rattle.executions.specs.declared.faults.Cause.TheVariants.{DoesNotFit, OverLimit, NoSuchTie}
use Rattle.executions.specs.declared.faults.Fault.{Fault}
use Rattle.executions.specs.declared.ties.Relation.{Relation}
use Rattle.executions.specs.Execution.{Ties, unused}
use Rattle.executions.specs.Ties.{relation_number, fits}
use Rattle.executions.specs.Words.{word_at, ties_of}
use Rattle.executions.proofs.Words.{word_within, no_event, and_false, same_row}
use Rattle.tables.specs.Plain.{Plain, Open, short, named, pair, tied, untied, taken, refused, on_named, tie_known, tie_plain, untie_known, untie_plain}
use Rattle.tables.specs.Tables.{Tables, plain_of, Exact, Does, Written}
use Rattle.tables.proofs.Holding.{long, does}
use Rattle.wellformed.proofs.Walking.{or-false}

-- ---- what a tie that is named well has

pub record Known (records words n number a b : ℕ) (r : Relation) : Type 0 where
  pub enough : short records words ≡ false
  pub numbers : relation_number r ≡ number
  pub first : a < n
  pub second : b < n

pub known : (records words n number a b : ℕ) (r : Relation) → named records words n number a b ≡ Ok r → Known records words n number a b r
known records words n number a b r e = grind (arith, nat_tests)

-- a call sees the count of the case, also where the tables are too short to hold it
pub named_count : (t : Tables) → t.count ≤ 64 → (words number a b : ℕ)
    → named (length t.records) words (length (take t.count t.records)) number a b ≡ named (length t.records) words t.count number a b
named_count t room words number a b = grind (arith, nat_tests, long, length-take-le)

-- ---- one word written

abbrev pub with_word : Tables → ℕ → ℕ → Tables
with_word t i w = record { count = t.count; records = t.records; words = set t.words i w }

-- a pair of another row
different : (n n' a a' : ℕ) (z : Bool) → (n' ≡ n → a' ≡ a → ⊥) → (eqb n' n && (eqb a' a && z)) ≡ false
different n n' a a' z h = grind (arith, nat_tests)

-- A word is written at the row of a: bit b of it changes by g, all else stays as it was.
module _ (g : Bool → Bool → Bool) (idle : (x : Bool) → g x false ≡ x) (ws : List ℕ) (r : Relation) (a b w : ℕ)
    (fits_a : a < 64) (fits_b : b < 64) (long_enough : 384 ≤ length ws)
    (changed : (x : ℕ) → bit w x ≡ g (bit (get_or ws (word_at (relation_number r) a) 0) x) (eqb x b)) where
  -- in the row itself
  here : (x : ℕ) → (ltb x 64 && bit w x) ≡ g (ltb x 64 && bit (get_or ws (word_at (relation_number r) a) 0) x) (eqb x b)
  here x = grind (arith, nat_tests)

  same : (r' : Relation) (a' b' : ℕ) → relation_number r' ≡ relation_number r → a' ≡ a
      → ties_of (set ws (word_at (relation_number r) a) w) r' a' b' ≡ g (ties_of ws r' a' b') (pair r a b r' a' b')
  unfolding ties_of
  same r' a' b' p q = grind (arith, nat_tests, word_within, get_or-set_same, here)

  -- in any other row
  unmoved : (r' : Relation) (a' b' : ℕ) → (relation_number r' ≡ relation_number r → a' ≡ a → ⊥)
      → ties_of (set ws (word_at (relation_number r) a) w) r' a' b' ≡ ties_of ws r' a' b'
  unfolding ties_of
  unmoved r' a' b' apart = grind (arith, nat_tests, no_event, same_row, get_or-set_other)

  apart_stays : (r' : Relation) (a' b' : ℕ) → (relation_number r' ≡ relation_number r → a' ≡ a → ⊥)
      → ties_of (set ws (word_at (relation_number r) a) w) r' a' b' ≡ g (ties_of ws r' a' b') (pair r a b r' a' b')
  apart_stays r' a' b' apart = grind (arith, nat_tests, unmoved, different)

  pub ties_after : (r' : Relation) (a' b' : ℕ)
      → ties_of (set ws (word_at (relation_number r) a) w) r' a' b' ≡ g (ties_of ws r' a' b') (pair r a b r' a' b')
  ties_after r' a' b' = grind (arith, nat_tests, same, apart_stays)

  -- what stood past n events of the case still does not
  pub exact_after : (n : ℕ) (rs : List Event) → a < n → b < n
      → Exact (record { count = n; records = rs; words = ws }) → Exact (record { count = n; records = rs; words = set ws (word_at (relation_number r) a) w })
  exact_after n rs la lb x = grind (arith, nat_tests, get_or-set_other, same_row, ties_after, and_false)

-- ---- the two calls as steps of the plain case

and_idle : (x : Bool) → (x && not false) ≡ x
and_idle true = refl
and_idle false = refl

abbrev Call : Type 0
Call = Relation → ℕ → ℕ → Plain → Plain × Result (Unit {0}) Fault

module _ (t : Tables) (room : t.count ≤ 64) (number a b : ℕ) where
  abbrev naming : Result Relation Fault
  naming = named (length t.records) (length t.words) t.count number a b

  named_step : (call : Call) (res : Result Relation Fault) → naming ≡ res
      → on_named call (length t.records) (length t.words) number a b (plain_of t)
      ≡ elim res [ Err f ↦ (plain_of t, Err f) | Ok r ↦ call r a b (plain_of t) ]
  named_step call res e = grind (arith, nat_tests, named_count)

  module _ (r : Relation) (e : naming ≡ Ok r) where
    abbrev facts : Known (length t.records) (length t.words) t.count number a b r
    facts = known (length t.records) (length t.words) t.count number a b r e

    -- the tests of tie, by what they find
    tie_tests : (x y : Bool) → fits r a (get_or t.records a unused) b (get_or t.records b unused) ≡ x → taken t.count (ties_of t.words) r a b ≡ y
        → tie_known r a b (plain_of t) ≡ cond (not x) (refused (plain_of t) DoesNotFit a) (cond y (refused (plain_of t) OverLimit b) (tied r a b (plain_of t), Ok tt))
    tie_tests x y p q = grind (arith, nat_tests, length-take-le, long, get_or-take)

    -- a word that is written as the plain case says
    written_there : (call : Call) (g : Bool → Bool → Bool) (idle : (x : Bool) → g x false ≡ x) (w : ℕ)
        → call r a b (plain_of t) ≡ (record { execution = record { events = take t.count t.records; ties = λ r' a' b'. g (ties_of t.words r' a' b') (pair r a b r' a' b') }; mark = Open }, Ok tt)
        → ((x : ℕ) → bit w x ≡ g (bit (get_or t.words (word_at (relation_number r) a) 0) x) (eqb x b))
        → Does (on_named call (length t.records) (length t.words) number a b) t (with_word t (word_at (relation_number r) a) w) (Ok tt)
    written_there call g idle w q changed =
        let enough = long (length t.records) (length t.words) facts.enough in
        let la : a < 64 = omega (arith, facts.first) in
        let lb : b < 64 = omega (arith, facts.second) in
        let lw : 384 ≤ length t.words = enough.1 in
        does (on_named call (length t.records) (length t.words) number a b) t (with_word t (word_at (relation_number r) a) w) (Ok tt)
        (ap (λ (ts : Ties). (record { execution = record { events = take t.count t.records; ties = ts }; mark = Open }, Ok tt))
        (fun_ext λ r'. fun_ext λ a'. fun_ext λ b'. ties_after g idle t.words r a b w la lb lw changed r' a' b')
        ∙ sym (named_step call (Ok r) e ∙ q))
        (exact_after g idle t.words r a b w la lb lw changed t.count t.records facts.first facts.second)

    module _ (i w : ℕ) (there : i ≡ word_at (relation_number r) a) where
      written : (call : Call) (g : Bool → Bool → Bool) (idle : (x : Bool) → g x false ≡ x)
          → call r a b (plain_of t) ≡ (record { execution = record { events = take t.count t.records; ties = λ r' a' b'. g (ties_of t.words r' a' b') (pair r a b r' a' b') }; mark = Open }, Ok tt)
          → ((x : ℕ) → bit w x ≡ g (bit (get_or t.words i 0) x) (eqb x b))
          → Does (on_named call (length t.records) (length t.words) number a b) t (with_word t i w) (Ok tt)
      written call g idle q =
          subst
          (λ (j : ℕ). ((x : ℕ) → bit w x ≡ g (bit (get_or t.words j 0) x) (eqb x b)) → Does (on_named call (length t.records) (length t.words) number a b) t (with_word t j w) (Ok tt))
          (sym there) (written_there call g idle w q)

      pub tie_done : fits r a (get_or t.records a unused) b (get_or t.records b unused) ≡ true → taken t.count (ties_of t.words) r a b ≡ false
          → bit w ≡ adding b (bit (get_or t.words i 0))
          → Does (tie_plain (length t.records) (length t.words) number a b) t (with_word t i w) (Ok tt)
      unfolding adding
      tie_done p q s =
          let lb : b < 64 = omega (arith, facts.second) in
          written tie_known (λ x y. x || y) or-false (tie_tests true false p q)
          (λ x. ap (λ (f : Set). f x) s ∙ ap (λ (u : Bool). bit (get_or t.words i 0) x || u) (and_true (eqb x b) (lt-ltb b 64 lb)))

      pub untie_done : ties_of t.words r a b ≡ true
          → bit w ≡ dropping b (bit (get_or t.words i 0))
          → Does (untie_plain (length t.records) (length t.words) number a b) t (with_word t i w) (Ok tt)
      unfolding dropping
      untie_done p s =
          written untie_known (λ x y. x && not y) and_idle
          (ap (λ (u : Bool). cond (not u) (refused {A = Unit {0}} (plain_of t) NoSuchTie a) (untied r a b (plain_of t), Ok tt)) p)
          (λ x. ap (λ (f : Set). f x) s)

      -- the word that was written, by the number that named its relation
      pub wrote : (change : Set → Set) → bit w ≡ change (bit (get_or t.words i 0)) → Written (word_at number a) change t.words (set t.words i w) (Ok tt)
      wrote change s = grind (arith, nat_tests)
