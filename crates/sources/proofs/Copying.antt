-- What is copied from a source, event by event and row by row.
use Rattle.std.proofs.Common.{◌≡◌, ℕ, zero, suc, ◌+◌, ◌-◌, ◌*◌, ◌<◌, ◌≤◌, Bool, true, false, ◌&&◌, ltb, List, [], ◌∷◌, ◌++◌, length, get_or, take, set, Some, None, Option, unwrap_or, sym, refl, ap, ◌∙◌, subst, ap₂, ⊎_elim, arith}
use mathlib.Core.Path.{fun_ext}
use Rattle.std.specs.List.{slice_get}
use Rattle.std.proofs.lemmas.List.{length-take-le, take_more, take_more_set, take_all, get_or-set_same, get_or-set_other, get_or-take, get_or_append_left, get_or-append_right}
use Rattle.std.proofs.lemmas.Option.{slice_get-get_or}
use Rattle.std.proofs.lemmas.Bool.{cases_eq, cases_lt, le-ltb}
use Rattle.rows.specs.Row.{Set, bit}
use Rattle.executions.specs.declared.events.Event.{Event}
use Rattle.executions.specs.Execution.{Execution, Ties, count, unused}
use Rattle.executions.specs.declared.ties.Relation.{Relation}
use Rattle.executions.specs.declared.ties.Relation.TheVariants.{Rf}
use Rattle.executions.specs.Ties.{relation_number, relations, relation_of}
use Rattle.executions.specs.Words.{word_at}
use Rattle.executions.proofs.Words.{number_range, relation_found}
use Rattle.sources.specs.Source.{bounded, targets}
use Rattle.sources.specs.declared.kinds.Snapshot.{Snapshot}
use Rattle.sources.specs.Snapshot.{RowsCopied, execution}

-- one event more
pub copied_more : (es xs : List Event) (i : ℕ) (e : Event) → i < length es → i < length xs → take i es ≡ take i xs → e ≡ unwrap_or (slice_get xs i) unused
    → take (i + 1) (set es i e) ≡ take (i + 1) xs
copied_more es xs i e h k before here =
    take_more_set es i e h
    ∙ ap₂ (λ l d. l ++ d ∷ []) before (here ∙ ap (λ o. unwrap_or o unused) (slice_get-get_or xs i unused k))
    ∙ sym (take_more xs i unused k)

-- all of them
pub copied_all : (es xs : List Event) (i n : ℕ) → i ≡ n → n ≡ length xs → take i es ≡ take i xs → take n es ≡ xs
copied_all es xs i n p q before =
    subst (λ (k : ℕ). take k es ≡ take k xs) p before ∙ take_all n xs (subst (λ (k : ℕ). k ≤ n) q (omega arith))

-- one row more
pub row_more : (rows : List ℕ) (x : Execution) (number a w : ℕ) → a < length rows
    → ((b : ℕ) → b < a → bit (get_or rows b 0) ≡ targets x number b) → bit w ≡ targets x number a
    → (b : ℕ) → b < a + 1 → bit (get_or (set rows a w) b 0) ≡ targets x number b
row_more rows x number a w h before here b l = ⊎_elim same other (cases_eq b a)
  where
    same : b ≡ a → bit (get_or (set rows a w) b 0) ≡ targets x number b
    same e = rw (e, get_or-set_same rows a w 0 h) here

    other : (b ≡ a → ⊥) → bit (get_or (set rows a w) b 0) ≡ targets x number b
    other n = ap bit (get_or-set_other rows a b w 0 n) ∙ before b (omega arith)

-- the same of a row that is written in its place among the words
pub row_in_place : (ws : List ℕ) (x : Execution) (k a w : ℕ) → 64 * k + a < length ws
    → ((b : ℕ) → b < a → bit (get_or ws (64 * k + b) 0) ≡ targets x (k + 1) b) → bit w ≡ targets x (k + 1) a
    → (b : ℕ) → b < a + 1 → bit (get_or (set ws (64 * k + a) w) (64 * k + b) 0) ≡ targets x (k + 1) b
row_in_place ws x k a w h before here b l = ⊎_elim same other (cases_eq b a)
  where
    same : b ≡ a → bit (get_or (set ws (64 * k + a) w) (64 * k + b) 0) ≡ targets x (k + 1) b
    same e = rw (e, get_or-set_same ws (64 * k + a) w 0 h) here

    other : (b ≡ a → ⊥) → bit (get_or (set ws (64 * k + a) w) (64 * k + b) 0) ≡ targets x (k + 1) b
    other n = ap bit (get_or-set_other ws (64 * k + a) (64 * k + b) w 0 (λ e. n (omega arith))) ∙ before b (omega arith)

-- the rows of the relations before stay
pub rows_kept : (ws vs : List ℕ) (k a w : ℕ) → ((i : ℕ) → i < 64 * k → get_or ws i 0 ≡ get_or vs i 0)
    → (i : ℕ) → i < 64 * k → get_or (set ws (64 * k + a) w) i 0 ≡ get_or vs i 0
rows_kept ws vs k a w before i h = get_or-set_other ws (64 * k + a) i w 0 (λ e. omega arith) ∙ before i h

-- the rows of a relation in their place among the words
module _ (ws rows rest : List ℕ) (first n : ℕ) (room : first ≤ length ws) (long : length rows ≡ n) where
  pub placed : (a i : ℕ) → a < n → i ≡ first + a → get_or (take first ws ++ (rows ++ rest)) i 0 ≡ get_or rows a 0
  placed a i h e =
      get_or-append_right (take first ws) (rows ++ rest) first i 0 (length-take-le first ws room) (omega arith)
      ∙ ap (λ (k : ℕ). get_or (rows ++ rest) k 0) (omega arith) ∙ get_or_append_left rows rest 0 a (omega (arith, long))

  pub placed_before : (i : ℕ) → i < first → get_or (take first ws ++ (rows ++ rest)) i 0 ≡ get_or ws i 0
  placed_before i h = get_or_append_left (take first ws) (rows ++ rest) 0 i (omega (arith, length-take-le first ws room)) ∙ get_or-take first ws i 0 h

-- one relation more
pub relations_more : (x : Execution) (ws vs : List ℕ) (k n : ℕ) → n ≤ 64 → RowsCopied x k n ws
    → ((a : ℕ) → a < n → bit (get_or vs (64 * k + a) 0) ≡ targets x (k + 1) a) → ((i : ℕ) → i < 64 * k → get_or vs i 0 ≡ get_or ws i 0)
    → RowsCopied x (k + 1) n vs
relations_more x ws vs k n few before here same m a h l = ⊎_elim at under (cases_eq m k)
  where
    at : m ≡ k → bit (get_or vs (64 * m + a) 0) ≡ targets x (m + 1) a
    at e = rw e (here a l)

    under : (m ≡ k → ⊥) → bit (get_or vs (64 * m + a) 0) ≡ targets x (m + 1) a
    under ne = ap bit (same (64 * m + a) (omega arith)) ∙ before m a (omega arith) l

-- the relations stand in the order of their numbers
number_at : (k : ℕ) → k < 6 → relation_number (get_or relations k Rf) ≡ k + 1
number_at zero h = refl
number_at (suc zero) h = refl
number_at (suc (suc zero)) h = refl
number_at (suc (suc (suc zero))) h = refl
number_at (suc (suc (suc (suc zero)))) h = refl
number_at (suc (suc (suc (suc (suc zero))))) h = refl
number_at (suc (suc (suc (suc (suc (suc k)))))) h = absurd (omega arith)

-- one relation of the list more
pub listed_more : (x : Execution) (ws vs : List ℕ) (k n : ℕ) → k < 6 → n ≤ 64 → RowsCopied x k n ws
    → ((a : ℕ) → a < n → bit (get_or vs (word_at (relation_number (get_or relations k Rf)) a) 0) ≡ targets x (relation_number (get_or relations k Rf)) a)
    → ((i : ℕ) → i < word_at (relation_number (get_or relations k Rf)) 0 → get_or vs i 0 ≡ get_or ws i 0) → RowsCopied x (k + 1) n vs
listed_more x ws vs k n six few before here same =
    let e = number_at k six in
    let at : relation_number (get_or relations k Rf) - 1 ≡ k = omega (arith, e) in
    relations_more x ws vs k n few before
    (λ a h. ap (λ (j : ℕ). bit (get_or vs (64 * j + a) 0)) (sym at) ∙ here a h ∙ ap (λ (j : ℕ). targets x j a) e)
    (λ i h. same i (omega (arith, at)))

twice : (x y : Bool) → (x && (x && y)) ≡ (x && y)
twice true y = refl
twice false y = refl

-- words that have the rows of all relations hold the source's ties
pub copied_ties : (x : Execution) (ws : List ℕ) → RowsCopied x 6 (count x) ws → (r : Relation) (a b : ℕ)
    → (ltb a (count x) && bit (get_or ws (word_at (relation_number r) a) 0) b) ≡ (bounded x).ties r a b
unfolding targets
copied_ties x ws all r a b = ⊎_elim inside outside (cases_lt a (count x))
  where
    inside : a < count x → (ltb a (count x) && bit (get_or ws (word_at (relation_number r) a) 0) b) ≡ (bounded x).ties r a b
    inside h =
        let n = number_range r in
        let m : relation_number r - 1 + 1 ≡ relation_number r = omega arith in
        ap (λ (s : Set). ltb a (count x) && s b) (all (relation_number r - 1) a (omega arith) h)
        ∙ ap (λ (k : ℕ). ltb a (count x) && elim (relation_of k) as (λ _. Bool) [ None ↦ false | Some q ↦ (bounded x).ties q a b ]) m
        ∙ ap (λ (o : Option Relation). ltb a (count x) && elim o as (λ _. Bool) [ None ↦ false | Some q ↦ (bounded x).ties q a b ]) (relation_found r)
        ∙ twice (ltb a (count x)) (ltb b 64 && x.ties r a b)

    outside : count x ≤ a → (ltb a (count x) && bit (get_or ws (word_at (relation_number r) a) 0) b) ≡ (bounded x).ties r a b
    outside h = rw (le-ltb a (count x) h) refl

-- a copy holds the source's execution
pub copied_execution : (x : Execution) (es : List Event) (ws : List ℕ) (n : ℕ) → n ≡ count x → take n es ≡ x.events → RowsCopied x 6 n ws
    → record { events = take n es; ties = λ r a b. ltb a n && bit (get_or ws (word_at (relation_number r) a) 0) b } ≡ bounded x
copied_execution x es ws n e events rows =
    ap₂ (λ l k. record { events = l; ties = λ r a b. ltb a k && bit (get_or ws (word_at (relation_number r) a) 0) b }) events e
    ∙ ap (λ (ts : Ties). record { events = x.events; ties = ts })
    (fun_ext λ r. fun_ext λ a. fun_ext λ b. copied_ties x ws (subst (λ (k : ℕ). RowsCopied x 6 k ws) e rows) r a b)

-- a copy has as many events as it counts, at most 64
pub held_count : (s : Snapshot) → count (execution s) ≡ s.count
held_count s = length-take-le s.count s.events (omega (arith, s.few, s.records))

pub held_few : (s : Snapshot) → count (execution s) ≤ 64
held_few s = omega (arith, held_count s, s.few)
