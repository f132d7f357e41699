-- What the rows of events have: by thread, by place and by sort.
use Rattle.std.proofs.lemmas.Bool.Decides.{nat_tests}
use Rattle.std.proofs.Common.{◌≡◌, ℕ, ◌+◌, ◌-◌, ◌^◌, ◌<◌, ◌≤◌, true, false, ◌&&◌, ◌||◌, eqb, ltb, List, get_or, sym, refl, ap, ◌∙◌, ⊎_elim, arith}
use mathlib.Core.Path.{fun_ext}
use lib.Bits.{bit_and, bit_or}
use Rattle.std.proofs.lemmas.List.{get_or_past}
use Rattle.std.proofs.lemmas.Bool.{cases_lt, eq-eqb, eqb-true, lt-ltb, le-ltb, ltb-true, and_parts, and_from, and_left, both_ways, or_cases, or_right, not-true, not_from_false}
use Rattle.rows.specs.Row.{Set, bit, adding, below}
use Rattle.rows.proofs.Bits.{bit-bit_and, bit-bit_or, bit_not, bit_zero, bit_inside}
use Rattle.relations.specs.Algebra.{union, identity}
use Rattle.relations.specs.Table.{On}
use Rattle.relations.proofs.Tables.{both_same}
use Rattle.executions.specs.declared.events.Event.{Event}
use Rattle.executions.specs.declared.sorts.Sort.{Sort}
use Rattle.executions.specs.declared.sorts.Sort.TheVariants.{ReadOnce, ReadAcquire, WriteOnce, WriteRelease, Rmb, Wmb, Mb, RbDep, RcuLock, RcuUnlock, SyncRcu, Blank}
use Rattle.executions.specs.declared.ties.Relation.{Relation}
use Rattle.executions.specs.Sorts.{sort_number}
use Rattle.executions.specs.Events.{in_program}
use Rattle.executions.specs.Execution.{Execution, count, event_at, unused}
use Rattle.basis.specs.Groups.{Grouped}
use Rattle.basis.specs.Meaning.{po, same_thread, int, loc, tied, accesses, of_sort}

-- past the last event there is none
past : (x : Execution) (b : ℕ) → count x ≤ b → event_at x b ≡ unused
past x b l = get_or_past x.events b unused l

-- an event of the program is one of the events
pub program_inside : (x : Execution) (a : ℕ) → in_program (event_at x a) ≡ true → a < count x
program_inside x a p = grind (arith, nat_tests, past)

-- and so is one with the same thread
pub fellow_inside : (x : Execution) (a b : ℕ) → in_program (event_at x a) ≡ true → (event_at x a).thread ≡ (event_at x b).thread → b < count x
fellow_inside x a b p e = grind (arith, nat_tests, past)

access_inside : (x : Execution) (b : ℕ) → accesses x b ≡ true → b < count x
unfolding accesses
access_inside x b p = grind (arith, nat_tests, past)

-- ---- the relations have events at both ends

pub on_po : (x : Execution) → On (count x) (po x)
unfolding po
on_po x a b h = grind (arith, nat_tests, program_inside, fellow_inside)

pub on_int : (x : Execution) → On (count x) (int x)
unfolding int same_thread union identity
on_int x a b h = grind (arith, nat_tests, program_inside, fellow_inside)

pub on_loc : (x : Execution) → On (count x) (loc x)
unfolding loc
on_loc x a b h = grind (arith, nat_tests, access_inside)

pub on_tied : (r : Relation) (x : Execution) → On (count x) (tied r x)
unfolding tied
on_tied r x a b h = grind (arith, nat_tests)

-- ---- rows

-- the later events of a thread
module _ (x : Execution) (gs : List ℕ) (few : count x ≤ 64) (all : Grouped (λ b. (event_at x b).thread) (count x) gs) (a : ℕ) where
  abbrev thread : ℕ
  thread = (event_at x a).thread

  pub later_is : (v : ℕ) → get_or gs thread 0 < 2 ^ 64 → v < 2 ^ 64 → bit v ≡ below (a + 1) → thread < 256 → in_program (event_at x a) ≡ true
      → bit (bit_and (get_or gs thread 0) ((2 ^ 64 - 1) - v)) ≡ po x a
  unfolding po below
  later_is v fits small under byte p = fun_ext λ b. both_same _ _ (there b) (back b)
    where
      there : (b : ℕ) → bit (bit_and (get_or gs thread 0) ((2 ^ 64 - 1) - v)) b ≡ true
          → (ltb a b && (in_program (event_at x a) && eqb thread (event_at x b).thread)) ≡ true
      there b h =
          let k = and_parts (bit (get_or gs thread 0) b) (bit ((2 ^ 64 - 1) - v) b) (sym (bit-bit_and (get_or gs thread 0) ((2 ^ 64 - 1) - v) b) ∙ h) in
          let l = bit_inside (get_or gs thread 0) b fits k.0 in
          let m = and_parts (ltb b (count x)) (eqb (event_at x b).thread thread) (sym (all thread b byte) ∙ k.0) in
          let n = not-true (bit v b) (sym (bit_not 64 v b small l) ∙ k.1) in
          let o : a < b = after b l n in
          and_from (ltb a b) _ (lt-ltb a b o) (and_from (in_program (event_at x a)) _ p (eq-eqb thread (event_at x b).thread (sym (eqb-true _ _ m.1))))
        where
          after : (b : ℕ) → b < 64 → bit v b ≡ false → a < b
          after b l e = ⊎_elim (λ o. o) (λ o. absurd (both_ways (bit v b) e (ap (λ (s : Set). s b) under ∙ and_from (ltb b (a + 1)) (ltb b 64) (lt-ltb b (a + 1) (omega arith)) (lt-ltb b 64 l)))) (cases_lt a b)

      back : (b : ℕ) → (ltb a b && (in_program (event_at x a) && eqb thread (event_at x b).thread)) ≡ true
          → bit (bit_and (get_or gs thread 0) ((2 ^ 64 - 1) - v)) b ≡ true
      back b h =
          let k = and_parts (ltb a b) (in_program (event_at x a) && eqb thread (event_at x b).thread) h in
          let e = eqb-true thread (event_at x b).thread (and_parts (in_program (event_at x a)) (eqb thread (event_at x b).thread) k.1).1 in
          let l = fellow_inside x a b p e in
          let o = ltb-true a b k.0 in
          let m : b < 64 = omega arith in
          bit-bit_and (get_or gs thread 0) ((2 ^ 64 - 1) - v) b
          ∙ and_from (bit (get_or gs thread 0) b) (bit ((2 ^ 64 - 1) - v) b)
          (all thread b byte ∙ and_from (ltb b (count x)) (eqb (event_at x b).thread thread) (lt-ltb b (count x) l) (eq-eqb _ _ (sym e)))
          (bit_not 64 v b small m ∙ not_from_false (bit v b) (ap (λ (s : Set). s b) under ∙ and_left (ltb b (a + 1)) (ltb b 64) (le-ltb b (a + 1) (omega arith))))

  pub later_at : (e : Event) → e ≡ event_at x a → (v : ℕ) → get_or gs e.thread 0 < 2 ^ 64 → v < 2 ^ 64 → bit v ≡ below (a + 1) → e.thread < 256 → in_program e ≡ true
      → bit (bit_and (get_or gs e.thread 0) ((2 ^ 64 - 1) - v)) ≡ po x a
  later_at e q v = grind (arith, nat_tests, later_is)

  pub none_later : in_program (event_at x a) ≡ false → bit 0 ≡ po x a
  unfolding po
  none_later p = grind (arith, nat_tests, bit_zero)

  pub fellows_is : thread < 256 → in_program (event_at x a) ≡ true → bit (get_or gs thread 0) ≡ int x a
  unfolding int same_thread union identity
  fellows_is byte p = fun_ext λ b. both_same _ _ (there b) (back b)
    where
      there : (b : ℕ) → bit (get_or gs thread 0) b ≡ true → ((eqb a b && ltb a (count x)) || (in_program (event_at x a) && eqb thread (event_at x b).thread)) ≡ true
      there b h =
          let m = and_parts (ltb b (count x)) (eqb (event_at x b).thread thread) (sym (all thread b byte) ∙ h) in
          or_right (eqb a b && ltb a (count x)) _ (and_from (in_program (event_at x a)) _ p (eq-eqb thread (event_at x b).thread (sym (eqb-true _ _ m.1))))

      member : (b : ℕ) → b < count x → thread ≡ (event_at x b).thread → bit (get_or gs thread 0) b ≡ true
      member b l e = all thread b byte ∙ and_from (ltb b (count x)) (eqb (event_at x b).thread thread) (lt-ltb b (count x) l) (eq-eqb _ _ (sym e))

      back : (b : ℕ) → ((eqb a b && ltb a (count x)) || (in_program (event_at x a) && eqb thread (event_at x b).thread)) ≡ true → bit (get_or gs thread 0) b ≡ true
      back b h = ⊎_elim itself fellow (or_cases (eqb a b && ltb a (count x)) (in_program (event_at x a) && eqb thread (event_at x b).thread) h)
        where
          itself : (eqb a b && ltb a (count x)) ≡ true → bit (get_or gs thread 0) b ≡ true
          itself k =
              let e = eqb-true a b (and_parts (eqb a b) (ltb a (count x)) k).0 in
              let l = ltb-true a (count x) (and_parts (eqb a b) (ltb a (count x)) k).1 in
              member b (omega arith) (ap (λ (i : ℕ). (event_at x i).thread) e)

          fellow : (in_program (event_at x a) && eqb thread (event_at x b).thread) ≡ true → bit (get_or gs thread 0) b ≡ true
          fellow k =
              let e = eqb-true thread (event_at x b).thread (and_parts (in_program (event_at x a)) (eqb thread (event_at x b).thread) k).1 in
              member b (fellow_inside x a b p e) e

  pub fellows_at : (e : Event) → e ≡ event_at x a → e.thread < 256 → in_program e ≡ true → bit (get_or gs e.thread 0) ≡ int x a
  fellows_at e q = grind (arith, nat_tests, fellows_is)

  pub alone_is : (w : ℕ) → a < count x → bit w ≡ adding a (bit 0) → in_program (event_at x a) ≡ false → bit w ≡ int x a
  unfolding int same_thread union identity adding
  alone_is w l e p = grind (arith, nat_tests, bit_zero, both_same)

-- the reads and writes of a place
module _ (x : Execution) (gs : List ℕ) (all : Grouped (λ b. (event_at x b).place) (count x) gs) (w : ℕ) (acc : bit w ≡ accesses x) (a : ℕ) where
  abbrev place : ℕ
  place = (event_at x a).place

  pub beside_is : place < 256 → accesses x a ≡ true → bit (bit_and (get_or gs place 0) w) ≡ loc x a
  unfolding loc
  beside_is byte p = grind (arith, nat_tests, both_same, bit-bit_and, access_inside)

  pub beside_at : (e : Event) → e ≡ event_at x a → e.place < 256 → accesses x a ≡ true → bit (bit_and (get_or gs e.place 0) w) ≡ loc x a
  beside_at e q = grind (arith, nat_tests, beside_is)

  pub none_beside : accesses x a ≡ false → bit 0 ≡ loc x a
  unfolding loc
  none_beside p = fun_ext λ b. bit_zero b ∙ sym (rw p refl)

-- the events of a sort: every sort has a number above 0, which no record past the last event has
numbered : (s : Sort) → eqb 0 (sort_number s) ≡ false
numbered ReadOnce = refl
numbered ReadAcquire = refl
numbered WriteOnce = refl
numbered WriteRelease = refl
numbered Rmb = refl
numbered Wmb = refl
numbered Mb = refl
numbered RbDep = refl
numbered RcuLock = refl
numbered RcuUnlock = refl
numbered SyncRcu = refl
numbered Blank = refl

pub sort_is : (x : Execution) (gs : List ℕ) (s : Sort) → sort_number s < 256 → Grouped (λ b. (event_at x b).sort) (count x) gs → bit (get_or gs (sort_number s) 0) ≡ of_sort s x
unfolding of_sort
sort_is x gs s byte all = grind (arith, nat_tests, past, numbered)

-- the periods are among the events
pub sort_inside : (x : Execution) (s : Sort) (b : ℕ) → of_sort s x b ≡ true → b < count x
unfolding of_sort
sort_inside x s b h = grind (arith, nat_tests, past, numbered)

-- the events of one word or of another
pub either_is : (v w : ℕ) (f g : Set) → bit v ≡ f → bit w ≡ g → bit (bit_or v w) ≡ (λ a. f a || g a)
either_is v w f g e h = grind (arith, nat_tests, bit-bit_or)
