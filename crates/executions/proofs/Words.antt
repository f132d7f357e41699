-- Words of targets: where each stands, and what ties it holds.
use Rattle.std.proofs.Common.{◌≡◌, ℕ, ◌^◌, ◌<◌, ◌≤◌, Bool, true, false, ◌&&◌, ltb, List, get_or, sym, refl, ap, ◌∙◌, subst, ⊎_elim, arith, Some}
use mathlib.Core.Path.{fun_ext}
use Rattle.std.proofs.lemmas.Bool.{le-ltb, lt-ltb, cases_lt}
use Rattle.rows.specs.Row.{bit}
use Rattle.rows.proofs.Bits.{bit_zero, bit_outside}
use Rattle.executions.specs.declared.ties.Relation.{Relation}
use Rattle.executions.specs.declared.ties.Relation.TheVariants.{Rf, Co, Addr, Data, Ctrl, Rmw}
use Rattle.executions.specs.Ties.{relation_number, relation_of}
use Rattle.executions.specs.Words.{word_at, ties_of}

-- a relation has a number from 1 to 6
pub number_range : (r : Relation) → (1 ≤ relation_number r) × (relation_number r ≤ 6)
number_range Rf = (omega arith, omega arith)
number_range Co = (omega arith, omega arith)
number_range Addr = (omega arith, omega arith)
number_range Data = (omega arith, omega arith)
number_range Ctrl = (omega arith, omega arith)
number_range Rmw = (omega arith, omega arith)

-- and is found by it
pub relation_found : (r : Relation) → relation_of (relation_number r) ≡ Some r
relation_found Rf = refl
relation_found Co = refl
relation_found Addr = refl
relation_found Data = refl
relation_found Ctrl = refl
relation_found Rmw = refl

-- the word of an event is one of the 384
pub word_within : (r : Relation) (a : ℕ) → a < 64 → word_at (relation_number r) a < 384
word_within r a h = let n = number_range r in omega arith

pub and_false : (x y : Bool) → (x && (y && false)) ≡ false
and_false true true = refl
and_false true false = refl
and_false false y = refl

-- a word of zeros has no tie
pub no_word : (ws : List ℕ) (r : Relation) (a b : ℕ) → get_or ws (word_at (relation_number r) a) 0 ≡ 0 → ties_of ws r a b ≡ false
unfolding ties_of
no_word ws r a b e = rw (e, bit_zero b) (and_false (ltb a 64) (ltb b 64))

-- nor has an event past 63
pub no_event : (ws : List ℕ) (r : Relation) (a b : ℕ) → 64 ≤ a → ties_of ws r a b ≡ false
unfolding ties_of
no_event ws r a b h = rw (le-ltb a 64 h) refl

-- in words of 64 bits, a tie is a bit of its word
pub tied_when : (ws : List ℕ) (r : Relation) (a b : ℕ) → a < 64 → get_or ws (word_at (relation_number r) a) 0 < 2 ^ 64
    → ties_of ws r a b ≡ bit (get_or ws (word_at (relation_number r) a) 0) b
unfolding ties_of
tied_when ws r a b h w =
    ⊎_elim (λ k. rw (lt-ltb a 64 h, lt-ltb b 64 k) refl) (λ k. rw (lt-ltb a 64 h, le-ltb b 64 k) (sym (bit_outside _ b w k))) (cases_lt b 64)

-- two rows are in one word only if they are the same row
pub same_row : (r r' : Relation) (a a' : ℕ) → a < 64 → a' < 64 → word_at (relation_number r) a ≡ word_at (relation_number r') a'
    → (relation_number r ≡ relation_number r') × (a ≡ a')
same_row r r' a a' h h' e =
    let n = number_range r in
    let n' = number_range r' in
    (omega arith, omega arith)

-- the targets of an event are its word
pub word_there : (ws : List ℕ) (r : Relation) (a w : ℕ) → a < 64 → w ≡ get_or ws (word_at (relation_number r) a) 0 → w < 2 ^ 64 → bit w ≡ ties_of ws r a
word_there ws r a w h at less = fun_ext λ b. ap (λ (k : ℕ). bit k b) at ∙ sym (tied_when ws r a b h (subst (λ (k : ℕ). k < 2 ^ 64) at less))

-- past the 64th there are none
pub word_past : (ws : List ℕ) (r : Relation) (a : ℕ) → 64 ≤ a → bit 0 ≡ ties_of ws r a
word_past ws r a h = fun_ext λ b. bit_zero b ∙ sym (no_event ws r a b h)
