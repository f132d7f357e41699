-- What the layers show, question by question.
use Rattle.std.proofs.Common.{◌≡◌, ℕ, zero, suc, Bool, true, false, cond, not, ◌&&◌, ltb, List, [], ◌∷◌, length, get_or, take, Some, None, Option, sym, refl, ap, ◌∙◌, arith}
use mathlib.Core.Path.{fun_ext}
use Rattle.std.specs.List.{slice_get}
use Rattle.std.proofs.lemmas.Bool.{le-ltb, lt-ltb}
use Rattle.std.proofs.lemmas.Bool.Decides.{nat_tests}
use Rattle.rows.specs.Row.{bit}
use Rattle.rows.proofs.Bits.{bit_zero, and_true}
use Rattle.executions.specs.declared.events.Event.{Event}
use Rattle.executions.specs.declared.sorts.Sort.{Sort}
use Rattle.executions.specs.declared.sorts.Sort.TheVariants.{ReadOnce, ReadAcquire, WriteOnce, WriteRelease, Rmb, Wmb, Mb, RbDep, RcuLock, RcuUnlock, SyncRcu, Blank}
use Rattle.executions.specs.declared.ties.Relation.{Relation}
use Rattle.executions.specs.Execution.{Execution, count}
use Rattle.executions.specs.Sorts.{sort_of}
use Rattle.executions.specs.Ties.{relation_number, relations, relation_of}
use Rattle.executions.proofs.Numbers.{numbered_found}
use Rattle.sources.specs.Source.{targets}
use Rattle.sources.specs.Cut.{hides, cut}
use Rattle.sources.specs.Lowered.{under, one_of, weaker, lower, lower_all, lowered}

-- ---- cut

and3 : (x y z : Bool) → (x && (y && (z && false))) ≡ false
and3 true true true = refl
and3 true true false = refl
and3 true false z = refl
and3 false y z = refl

-- the row that is hidden
pub cut_hidden : (number e : ℕ) (x : Execution) (n a : ℕ) → true ≡ hides number e n a → bit 0 ≡ targets (cut number e x) n a
unfolding targets
cut_hidden number e x n a h = fun_ext λ b. bit_zero b ∙ sym (go (relation_of n) refl b)
  where
    go : (o : Option Relation) → relation_of n ≡ o → (b : ℕ)
        → elim o [ None ↦ false | Some r ↦ ltb a (count x) && (ltb b 64 && (x.ties r a b && not (hides number e (relation_number r) a))) ] ≡ false
    go None q b = refl
    go (Some r) q b = rw (numbered_found relation_number relations n r q, ← h) (and3 (ltb a (count x)) (ltb b 64) (x.ties r a b))

-- any other row
pub cut_shown : (number e : ℕ) (x : Execution) (n a : ℕ) → false ≡ hides number e n a → targets x n a ≡ targets (cut number e x) n a
unfolding targets
cut_shown number e x n a h = fun_ext λ b. go (relation_of n) refl b
  where
    go : (o : Option Relation) → relation_of n ≡ o → (b : ℕ)
        → ◌≡◌ {A = Bool} (elim o [ None ↦ false | Some r ↦ ltb a (count x) && (ltb b 64 && x.ties r a b) ])
        (elim o [ None ↦ false | Some r ↦ ltb a (count x) && (ltb b 64 && (x.ties r a b && not (hides number e (relation_number r) a))) ])
    go None q b = refl
    go (Some r) q b =
        ap (λ (t : Bool). ltb a (count x) && (ltb b 64 && t))
        (sym (rw (numbered_found relation_number relations n r q, ← h) (and_true (x.ties r a b) refl)))

-- ---- lowered

pub length_lower_all : (news : List ℕ) (es : List Event) → length (lower_all news es) ≡ length es
length_lower_all news [] = refl
length_lower_all [] (e ∷ es) = refl
length_lower_all (new ∷ news) (e ∷ es) = ap suc (length_lower_all news es)

pub lower_none : (news : List ℕ) (es : List Event) (i : ℕ) → None ≡ slice_get es i → None ≡ slice_get (lower_all news es) i
lower_none news [] i h = refl
lower_none [] (e ∷ es) i h = h
lower_none (new ∷ news) (e ∷ es) zero h = let z : ◌≡◌ {A = ℕ} 0 1 = cc in absurd (omega arith)
lower_none (new ∷ news) (e ∷ es) (suc i) h = lower_none news es i h

-- no sort is numbered 0
weaker_none : (old : ℕ) → weaker 0 old ≡ false
weaker_none old = go (sort_of old)
  where
    go : (o : Option Sort) → elim o [ None ↦ false | Some s ↦ one_of 0 (under s) ] ≡ false
    go None = refl
    go (Some ReadOnce) = refl
    go (Some ReadAcquire) = refl
    go (Some WriteOnce) = refl
    go (Some WriteRelease) = refl
    go (Some Rmb) = refl
    go (Some Wmb) = refl
    go (Some Mb) = refl
    go (Some RbDep) = refl
    go (Some RcuLock) = refl
    go (Some RcuUnlock) = refl
    go (Some SyncRcu) = refl
    go (Some Blank) = refl

either : {A : Type 0} (t : Bool) (x y : A) → x ≡ y → cond t x y ≡ y
either true x y e = e
either false x y e = refl

unlowered : (t : Bool) (e : Event) → cond t (lower 0 e) e ≡ e
unlowered t e = either t (lower 0 e) e (rw (weaker_none e.sort) refl)

later : (i n : ℕ) → ltb (suc i) (suc n) ≡ ltb i n
later i n = grind (arith, nat_tests)

pub lower_some : (n : ℕ) (news : List ℕ) (es : List Event) (i : ℕ) (e : Event) → Some e ≡ slice_get es i
    → Some (cond (ltb i n) (lower (get_or news i 0) e) e) ≡ slice_get (lower_all (take n news) es) i
lower_some n news [] i e h = let z : ◌≡◌ {A = ℕ} 0 1 = cc in absurd (omega arith)
lower_some zero news (d ∷ es) i e h = rw (le-ltb i 0 (omega arith)) h
lower_some (suc n) [] (d ∷ es) i e h = ap Some (unlowered (ltb i (suc n)) e) ∙ h
lower_some (suc n) (new ∷ news) (d ∷ es) zero e h = let same : e ≡ d = cc in rw (lt-ltb 0 (suc n) (omega arith)) (ap (λ u. Some (lower new u)) same)
lower_some (suc n) (new ∷ news) (d ∷ es) (suc i) e h = rw (later i n) (lower_some n news es i e h)

pub lowered_row : (news : List ℕ) (x : Execution) (n a : ℕ) → targets x n a ≡ targets (lowered news x) n a
unfolding targets
lowered_row news x n a = fun_ext λ b. ap (λ k. elim (relation_of n) as (λ _. Bool) [ None ↦ false | Some r ↦ ltb a k && (ltb b 64 && x.ties r a b) ]) (sym (length_lower_all (take 64 news) x.events))
