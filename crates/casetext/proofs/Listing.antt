-- The list of a case's ties, when a tie comes behind all others.
use Rattle.std.proofs.Common.{◌≡◌, ℕ, zero, suc, ◌+◌, ◌-◌, ◌*◌, ◌/◌, ◌%◌, ◌<◌, ◌≤◌, Bool, true, false, cond, ◌&&◌, ◌||◌, eqb, ltb, ◌⊎◌, List, [], ◌∷◌, ◌++◌, length, Some, None, Option, sym, refl, ap, ◌∙◌, ap₂, inl, inr, ⊎_elim, add-one, arith}
use Rattle.std.proofs.lemmas.List.{append-nil, length-append}
use Rattle.std.proofs.lemmas.Bool.{and_parts, and_from, or_right, eqb-true, eq-eqb, lt-ltb, ltb-true, cases_eq, both_ways}
use Rattle.executions.specs.declared.ties.Relation.{Relation}
use Rattle.executions.specs.Execution.{Execution, Ties, count}
use Rattle.executions.specs.Ties.{relations, relation_number, relation_of}
use Rattle.executions.proofs.Numbers.{numbered_found}
use Rattle.executions.proofs.Words.{number_range, relation_found}
use Rattle.tables.specs.Plain.{pair}
use Rattle.caselines.specs.declared.lines.Line.{Line}
use Rattle.caselines.specs.declared.lines.Line.TheVariants.{Tie}
use Rattle.casetext.specs.Text.{tie_lines, ties_below}
use Rattle.casetext.specs.Reading.{rank}

-- the line of a tie that a case of n events may have
abbrev pub line_if : ℕ → Ties → Relation → ℕ → ℕ → List Line
line_if n ties r a b = cond (ltb a n && (ltb b n && ties r a b)) (Tie r a b ∷ []) []

abbrev pub lines_at : ℕ → Ties → Option Relation → ℕ → ℕ → List Line
lines_at n ties o a b = elim o as (λ _. List Line) [ None ↦ [] | Some r ↦ line_if n ties r a b ]

-- the number of a tie among those of 64 events
abbrev pub key : Relation → ℕ → ℕ → ℕ
key r a b = 4096 * (relation_number r - 1) + 64 * a + b

-- ---- the number and the tie

pub key_below : (r : Relation) (a b : ℕ) → a < 64 → b < 64 → key r a b < 24576
key_below r a b h k = let n = number_range r in omega arith

-- the tie of a number is the tie with that number
pub key_found : (r : Relation) (a b : ℕ) → a < 64 → b < 64
    → (relation_of (key r a b / 4096 + 1) ≡ Some r) × (key r a b / 64 % 64 ≡ a) × (key r a b % 64 ≡ b)
key_found r a b h k =
    let n = number_range r in
    let number : key r a b / 4096 + 1 ≡ relation_number r = omega arith in
    (ap relation_of number ∙ relation_found r, omega arith, omega arith)

pub found_key : (k : ℕ) (r : Relation) → relation_of (k / 4096 + 1) ≡ Some r → k ≡ key r (k / 64 % 64) (k % 64)
found_key k r e =
    let number : relation_number r ≡ k / 4096 + 1 = numbered_found relation_number relations (k / 4096 + 1) r e in
    omega arith

-- ties stand in the order of their numbers
pub key_rank : (r : Relation) (a b : ℕ) (r' : Relation) (a' b' : ℕ) → a < 64 → b < 64 → a' < 64 → b' < 64 → rank r a b < rank r' a' b' → key r a b < key r' a' b'
key_rank r a b r' a' b' h k h' k' l = let n = number_range r in let n' = number_range r' in omega arith

pub rank_key : (r : Relation) (a b : ℕ) (r' : Relation) (a' b' : ℕ) → a < 64 → b < 64 → a' < 64 → b' < 64 → key r a b < key r' a' b' → rank r a b < rank r' a' b'
rank_key r a b r' a' b' h k h' k' l = let n = number_range r in let n' = number_range r' in omega arith

-- ---- one tie more

pub lines_more : (x : Execution) (n : ℕ) → ties_below x (n + 1) ≡ ties_below x n ++ tie_lines x n
unfolding ties_below
lines_more x n = rw add-one refl

-- no line where no tie is
line_none : (n : ℕ) (ties : Ties) (r : Relation) (a b : ℕ) → (a < n → b < n → ties r a b ≡ true → ⊥) → line_if n ties r a b ≡ []
line_none n ties r a b no_tie = go (ltb a n && (ltb b n && ties r a b)) refl
  where
    go : (t : Bool) → (ltb a n && (ltb b n && ties r a b)) ≡ t → cond t (Tie r a b ∷ []) [] ≡ []
    go true e =
        let outer = and_parts (ltb a n) (ltb b n && ties r a b) e in
        let inner = and_parts (ltb b n) (ties r a b) outer.1 in
        absurd (no_tie (ltb-true a n outer.0) (ltb-true b n inner.0) inner.1)
    go false e = refl

-- a line where one is
pub line_one : (n : ℕ) (ties : Ties) (r : Relation) (a b : ℕ) → a < n → b < n → ties r a b ≡ true → line_if n ties r a b ≡ Tie r a b ∷ []
line_one n ties r a b h k e = rw (lt-ltb a n h, lt-ltb b n k, e) refl

-- the ties of a number and of its tie
pub tie_at_key : (x : Execution) (r : Relation) (a b : ℕ) → a < 64 → b < 64 → tie_lines x (key r a b) ≡ line_if (count x) x.ties r a b
unfolding tie_lines
tie_at_key x r a b h k =
    let f = key_found r a b h k in
    ap (λ o. lines_at (count x) x.ties o (key r a b / 64 % 64) (key r a b % 64)) f.0
    ∙ ap₂ (λ (i j : ℕ). line_if (count x) x.ties r i j) f.1 f.2

-- either no tie has the number, or one has it
pub tie_at : (x : Execution) (m : ℕ) → (tie_lines x m ≡ []) ⊎ ((r : Relation) × (m ≡ key r (m / 64 % 64) (m % 64)) × (tie_lines x m ≡ line_if (count x) x.ties r (m / 64 % 64) (m % 64)))
unfolding tie_lines
tie_at x m = go (relation_of (m / 4096 + 1)) refl
  where
    go : (o : Option Relation) → relation_of (m / 4096 + 1) ≡ o
        → (lines_at (count x) x.ties (relation_of (m / 4096 + 1)) (m / 64 % 64) (m % 64) ≡ [])
        ⊎ ((r : Relation) × (m ≡ key r (m / 64 % 64) (m % 64)) × (lines_at (count x) x.ties (relation_of (m / 4096 + 1)) (m / 64 % 64) (m % 64) ≡ line_if (count x) x.ties r (m / 64 % 64) (m % 64)))
    go None e = inl (ap (λ o. lines_at (count x) x.ties o (m / 64 % 64) (m % 64)) e)
    go (Some r) e = inr (r, found_key m r e, ap (λ o. lines_at (count x) x.ties o (m / 64 % 64) (m % 64)) e)

-- x' has the one tie more
module _ (x : Execution) (r : Relation) (a b : ℕ) (few : count x ≤ 64) (first : a < count x) (second : b < count x)
    (last : (r' : Relation) (a' b' : ℕ) → x.ties r' a' b' ≡ true → rank r' a' b' < rank r a b) where
  abbrev pub after : Execution
  after = record { events = x.events; ties = λ r' a' b'. x.ties r' a' b' || pair r a b r' a' b' }

  same_tie : (r' : Relation) (a' b' : ℕ) → pair r a b r' a' b' ≡ true → key r' a' b' ≡ key r a b
  same_tie r' a' b' e =
      let outer = and_parts (eqb (relation_number r') (relation_number r)) (eqb a' a && eqb b' b) e in
      let inner = and_parts (eqb a' a) (eqb b' b) outer.1 in
      omega (arith, eqb-true (relation_number r') (relation_number r) outer.0, eqb-true a' a inner.0, eqb-true b' b inner.1)

  -- behind it there is none
  none_behind : (m : ℕ) → key r a b ≤ m → tie_lines x m ≡ []
  none_behind m h = ⊎_elim (λ e. e) (λ f. f.2 ∙ line_none (count x) x.ties f.0 (m / 64 % 64) (m % 64)
      (λ k l t. let p = f.1 in let q = key_rank f.0 (m / 64 % 64) (m % 64) r a b (omega arith) (omega arith) (omega arith) (omega arith) (last f.0 (m / 64 % 64) (m % 64) t) in omega arith))
      (tie_at x m)

  -- elsewhere nothing changes
  others : (m : ℕ) → (m ≡ key r a b → ⊥) → tie_lines after m ≡ tie_lines x m
  unfolding tie_lines
  others m ne = go (relation_of (m / 4096 + 1)) refl
    where
      go : (o : Option Relation) → relation_of (m / 4096 + 1) ≡ o
          → lines_at (count x) after.ties o (m / 64 % 64) (m % 64) ≡ lines_at (count x) x.ties o (m / 64 % 64) (m % 64)
      go None e = refl
      go (Some q) e = ap (λ (t : Bool). cond (ltb (m / 64 % 64) (count x) && (ltb (m % 64) (count x) && t)) (Tie q (m / 64 % 64) (m % 64) ∷ []) [])
          (or_other (x.ties q (m / 64 % 64) (m % 64)) (pair r a b q (m / 64 % 64) (m % 64)) (λ h. ne (found_key m q e ∙ same_tie q (m / 64 % 64) (m % 64) h)))
        where
          or_other : (s t : Bool) → (t ≡ true → ⊥) → (s || t) ≡ s
          or_other true t n = refl
          or_other false true n = absurd (n refl)
          or_other false false n = refl

  here : tie_lines x (key r a b) ≡ []
  here = none_behind (key r a b) (omega arith)

  there : tie_lines after (key r a b) ≡ Tie r a b ∷ []
  there =
      tie_at_key after r a b (omega arith) (omega arith)
      ∙ line_one (count x) after.ties r a b first second
      (or_right (x.ties r a b) _ (and_from _ _ (eq-eqb (relation_number r) (relation_number r) refl) (and_from _ _ (eq-eqb a a refl) (eq-eqb b b refl))))

  -- up to it
  before : (n : ℕ) → n ≤ key r a b → ties_below after n ≡ ties_below x n
  unfolding ties_below
  before zero h = refl
  before (suc n) h = ap₂ (λ (l m : List Line). l ++ m) (before n (omega arith)) (others n (λ e. omega arith))

  -- past it
  beyond : (n : ℕ) → key r a b < n → ties_below after n ≡ ties_below x n ++ Tie r a b ∷ []
  unfolding ties_below
  beyond zero h = absurd (omega arith)
  beyond (suc n) h = ⊎_elim at (λ ne. behind ne (beyond n (omega arith))) (cases_eq n (key r a b))
    where
      at : n ≡ key r a b → ties_below after n ++ tie_lines after n ≡ (ties_below x n ++ tie_lines x n) ++ Tie r a b ∷ []
      at e =
          ap₂ (λ (l m : List Line). l ++ m) (before n (omega arith)) (ap (tie_lines after) e ∙ there)
          ∙ ap (λ l. l ++ Tie r a b ∷ []) (sym (append-nil (ties_below x n)) ∙ ap (λ m. ties_below x n ++ m) (sym (ap (tie_lines x) e ∙ here)))

      behind : (n ≡ key r a b → ⊥) → ties_below after n ≡ ties_below x n ++ Tie r a b ∷ [] → ties_below after n ++ tie_lines after n ≡ (ties_below x n ++ tie_lines x n) ++ Tie r a b ∷ []
      behind ne ih =
          let nothing = none_behind n (omega arith) in
          ap₂ (λ (l m : List Line). l ++ m) ih (others n ne ∙ nothing)
          ∙ append-nil (ties_below x n ++ Tie r a b ∷ [])
          ∙ ap (λ l. l ++ Tie r a b ∷ []) (sym (append-nil (ties_below x n)) ∙ ap (λ m. ties_below x n ++ m) (sym nothing))

  pub listed : ties_below after 24576 ≡ ties_below x 24576 ++ Tie r a b ∷ []
  listed = beyond 24576 (key_below r a b (omega arith) (omega arith))

-- no tie, no line
pub none_listed : (x : Execution) (n : ℕ) → ((r : Relation) (a b : ℕ) → x.ties r a b ≡ false) → ties_below x n ≡ []
unfolding ties_below
none_listed x zero h = refl
none_listed x (suc n) h =
    ap₂ (λ (l m : List Line). l ++ m) (none_listed x n h)
    (⊎_elim (λ e. e) (λ f. f.2 ∙ line_none (count x) x.ties f.0 (n / 64 % 64) (n % 64) (λ k l t. both_ways (x.ties f.0 (n / 64 % 64) (n % 64)) (h f.0 (n / 64 % 64) (n % 64)) t)) (tie_at x n))

-- at most one line for each number
pub listed_length : (x : Execution) (n : ℕ) → length (ties_below x n) ≤ n
unfolding ties_below
listed_length x zero = omega arith
listed_length x (suc n) =
    let before = listed_length x n in
    let one : length (tie_lines x n) ≤ 1 = ⊎_elim (λ e. rw e (omega arith)) (λ f. rw f.2 (short (ltb (n / 64 % 64) (count x) && (ltb (n % 64) (count x) && x.ties f.0 (n / 64 % 64) (n % 64))) _)) (tie_at x n) in
    omega (arith, length-append (ties_below x n) (tie_lines x n))
  where
    short : (t : Bool) (l : Line) → length (cond t (l ∷ []) []) ≤ 1
    short true l = omega arith
    short false l = omega arith
