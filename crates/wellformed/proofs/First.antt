-- A search for the first fault.
use Rattle.std.proofs.Common.{◌≡◌, ℕ, zero, suc, ◌+◌, ◌-◌, ◌<◌, ◌≤◌, Bool, true, false, List, [], ◌∷◌, length, get_or, take, Some, None, Option, sym, refl, ap, ◌∙◌, subst, ⊎_elim, add-zero, add-suc, le_antisymm, add-one, arith}
use Rattle.std.proofs.lemmas.Bool.{cases_eq}
use Rattle.executions.specs.declared.faults.Cause.{Cause}
use Rattle.executions.specs.declared.faults.Fault.{Fault}
use Rattle.wellformed.specs.Faults.{or_else, first, first_in, fault_if}

-- ---- a loop that counts up

pub first_none : (f : ℕ → Option Fault) → first 0 f ≡ None
unfolding first
first_none f = refl

pub first_more : (f : ℕ → Option Fault) (i : ℕ) → first i f ≡ None → f i ≡ None → first (i + 1) f ≡ None
unfolding first
first_more f i before here = rw (add-one i, before) here

pub first_all : (f : ℕ → Option Fault) (i n : ℕ) → i ≤ n → n ≤ i → first i f ≡ None → None ≡ first n f
first_all f i n below above e = sym e ∙ ap (λ k. first k f) (le_antisymm below above)

-- once found, it stays
past : (f : ℕ → Option Fault) (i d : ℕ) (g : Fault) → first i f ≡ Some g → first (i + d) f ≡ Some g
unfolding first
past f i zero g e = rw (add-zero i) e
past f i (suc d) g e = rw (add-suc i d, past f i d g e) refl

pub first_stop : (f : ℕ → Option Fault) (i n : ℕ) (g : Fault) → i < n → first i f ≡ None → f i ≡ Some g → Some g ≡ first n f
unfolding first
first_stop f i n g h before here =
    let found : first (suc i) f ≡ Some g = rw before here in
    let e : suc i + (n - suc i) ≡ n = omega arith in
    sym (subst (λ (k : ℕ). first k f ≡ Some g) e (past f (suc i) (n - suc i) g found))

-- ---- a search that passes over numbers at which there is no fault

pub first_clear : (f : ℕ → Option Fault) (n : ℕ) → ((i : ℕ) → i < n → f i ≡ None) → first n f ≡ None
unfolding first
first_clear f zero h = refl
first_clear f (suc n) h = rw (first_clear f n (λ i l. h i (omega arith))) (h n (omega arith))

pub first_at : (f : ℕ → Option Fault) (i n : ℕ) (g : Fault) → i < n → ((k : ℕ) → k < i → f k ≡ None) → f i ≡ Some g → Some g ≡ first n f
first_at f i n g h before here = first_stop f i n g h (first_clear f i before) here

none_left : (o p : Option Fault) → or_else o p ≡ None → o ≡ None
none_left None p e = refl
none_left (Some f) p e = e

none_right : (o p : Option Fault) → or_else o p ≡ None → p ≡ None
none_right None p e = e
none_right (Some f) p e = let z : ◌≡◌ {A = ℕ} 0 1 = cc in absurd (omega arith)

pub neither : (o p : Option Fault) → or_else o p ≡ None → (o ≡ None) × (p ≡ None)
neither o p e = (none_left o p e, none_right o p e)

-- ---- a loop over a list

first_in_next : {A : Type 0} (f : A → Option Fault) (xs : List A) (i : ℕ) (d : A) → i < length xs → first_in f (take i xs) ≡ None → f (get_or xs i d) ≡ None
    → first_in f (take (suc i) xs) ≡ None
first_in_next f [] i d h before here = absurd (omega arith)
first_in_next f (x ∷ xs) zero d h before here = rw here refl
first_in_next f (x ∷ xs) (suc i) d h before here =
    let two = neither (f x) (first_in f (take i xs)) before in
    rw two.0 (first_in_next f xs i d (omega arith) two.1 here)

pub first_in_more : {A : Type 0} (f : A → Option Fault) (xs : List A) (i : ℕ) (d : A) → i < length xs → first_in f (take i xs) ≡ None → f (get_or xs i d) ≡ None
    → first_in f (take (i + 1) xs) ≡ None
first_in_more f xs i d h before here = rw (add-one i) (first_in_next f xs i d h before here)

pub first_in_stop : {A : Type 0} (f : A → Option Fault) (xs : List A) (i : ℕ) (d : A) (g : Fault) → i < length xs → first_in f (take i xs) ≡ None → f (get_or xs i d) ≡ Some g
    → Some g ≡ first_in f xs
first_in_stop f [] i d g h before here = absurd (omega arith)
first_in_stop f (x ∷ xs) zero d g h before here = rw here refl
first_in_stop f (x ∷ xs) (suc i) d g h before here =
    let two = neither (f x) (first_in f (take i xs)) before in
    rw two.0 (first_in_stop f xs i d g (omega arith) two.1 here)

-- ---- no fault at all

pub both_none : (o p : Option Fault) → o ≡ None → p ≡ None → or_else o p ≡ None
both_none o p e d = rw e d

pub first_none_at : (f : ℕ → Option Fault) (n : ℕ) → first n f ≡ None → (i : ℕ) → i < n → f i ≡ None
unfolding first
first_none_at f zero e i h = absurd (omega arith)
first_none_at f (suc n) e i h =
    let two = neither (first n f) (f n) e in
    ⊎_elim (λ q. subst (λ (k : ℕ). f k ≡ None) (sym q) two.1) (λ q. first_none_at f n two.0 i (omega arith)) (cases_eq i n)

-- a test that is not met is no fault, and only such a one
pub unmet : (b : Bool) (c : Cause) (p : ℕ) → b ≡ false → fault_if b c p ≡ None
unmet b c p e = rw e refl

pub unmet_by : (b : Bool) (c : Cause) (p : ℕ) → fault_if b c p ≡ None → b ≡ false
unmet_by false c p e = refl
unmet_by true c p e = let z : ◌≡◌ {A = ℕ} 0 1 = cc in absurd (omega arith)
