-- The entries of rows and sheets.
use Rattle.std.proofs.lemmas.Bool.Decides.{nat_tests}
use Rattle.std.proofs.Common.{◌≡◌, ℕ, ◌+◌, ◌<◌, ◌≤◌, Bool, leb, ltb, List, [], length, get_or, set, replicate, sym, refl, ap, ◌∙◌, ⊎_elim, arith, ◌++◌, drop}
use mathlib.Core.Path.{fun_ext}
use Rattle.std.proofs.lemmas.List.{get_or-set_same, get_or-set_other, length-set, get_or-replicate, get_or_past, get_or-drop, get_or_append_left, get_or-append_right}
use Rattle.std.proofs.lemmas.Bool.{cases_lt, cond-true, cond-false, lt-ltb, le-ltb}
use Rattle.precedence.specs.Rows.{cells, sheet}

-- in range, and past it
pub cell_at : (row : List ℕ) (b : ℕ) → b < 64 → cells row b ≡ get_or row b 0
unfolding cells
cell_at row b l = cond-true (ltb b 64) (get_or row b 0) 0 (lt-ltb b 64 l)

pub cell_far : (row : List ℕ) (b : ℕ) → 64 ≤ b → cells row b ≡ 0
unfolding cells
cell_far row b l = cond-false (ltb b 64) (get_or row b 0) 0 (le-ltb b 64 l)

-- a row all of whose entries are known
pub cells_are : (row : List ℕ) (f : ℕ → ℕ) → ((b : ℕ) → b < 64 → get_or row b 0 ≡ f b) → ((b : ℕ) → 64 ≤ b → f b ≡ 0) → cells row ≡ f
cells_are row f near far = grind (arith, nat_tests, cell_at, cell_far)

-- ---- a loop over the entries of a row: the first i are those of f, the others still as they were

pub record Upto (row old : List ℕ) (i : ℕ) (f : ℕ → ℕ) : Type 0 where
  pub long : length row ≡ 64
  pub front : (k : ℕ) → k < i → get_or row k 0 ≡ f k
  pub rest : (k : ℕ) → i ≤ k → get_or row k 0 ≡ get_or old k 0

pub upto_none : (old : List ℕ) (f : ℕ → ℕ) → length old ≡ 64 → Upto old old 0 f
upto_none old f long = grind (arith, nat_tests)

pub upto_more : (row old : List ℕ) (i w : ℕ) (f : ℕ → ℕ) → i < 64 → Upto row old i f → w ≡ f i → Upto (set row i w) old (i + 1) f
upto_more row old i w f l u e = grind (arith, nat_tests, length-set, get_or-set_same, get_or-set_other)

pub upto_all : (row old : List ℕ) (i : ℕ) (f : ℕ → ℕ) → 64 ≤ i → Upto row old i f → ((b : ℕ) → 64 ≤ b → f b ≡ 0) → cells row ≡ f
upto_all row old i f le u far = cells_are row f (λ b l. u.front b (omega arith)) far

-- the entry at i as the loop finds it
pub upto_here : (row old : List ℕ) (i : ℕ) (f : ℕ → ℕ) → i < 64 → Upto row old i f → get_or row i 0 ≡ cells old i
upto_here row old i f l u = u.rest i (omega arith) ∙ sym (cell_at old i l)

-- a row of zeros
pub zero_cells : (b : ℕ) → cells (replicate 64 0) b ≡ 0
zero_cells b = ⊎_elim (λ l. cell_at (replicate 64 0) b l ∙ get_or-replicate 64 b 0 0 l) (λ l. cell_far (replicate 64 0) b l) (cases_lt b 64)

-- a row of zeros of which the first n entries were set, where the others stay 0
pub upto_short : (row : List ℕ) (i n : ℕ) (f : ℕ → ℕ) → n ≤ i → Upto row (replicate 64 0) i f → ((b : ℕ) → n ≤ b → f b ≡ 0) → n ≤ 64 → cells row ≡ f
upto_short row i n f le u far few =
    cells_are row f (λ b l. ⊎_elim (λ m. u.front b m) (λ m. u.rest b m ∙ get_or-replicate {A = ℕ} 64 b 0 0 l ∙ sym (far b (omega arith))) (cases_lt b i)) (λ b l. far b (omega arith))

-- ---- a loop over the first n entries of a list, each of which gets its value

pub front_more : {A : Type 0} (xs : List A) (i : ℕ) (w d : A) (P : ℕ → A → Type 0) → i < length xs → ((k : ℕ) → k < i → P k (get_or xs k d)) → P i w
    → (k : ℕ) → k < i + 1 → P k (get_or (set xs i w) k d)
front_more xs i w d P l front here k m = grind (arith, nat_tests, get_or-set_same, get_or-set_other)

-- with the other entries as they were
front_at : {A : Type 0} (xs old : List A) (n k : ℕ) (d : A) → length xs ≡ n → k < n → get_or (xs ++ drop n old) k d ≡ get_or xs k d
front_at xs old n k d long l = grind (arith, nat_tests, get_or_append_left)

rest_at : {A : Type 0} (xs old : List A) (n k : ℕ) (d : A) → length xs ≡ n → n ≤ k → get_or (xs ++ drop n old) k d ≡ get_or old k d
rest_at xs old n k d long l = grind (arith, nat_tests, get_or-append_right, get_or-drop)

pub front_cells : (xs : List ℕ) (n : ℕ) (f : ℕ → ℕ) → length xs ≡ n → n ≤ 64 → ((k : ℕ) → k < n → get_or xs k 0 ≡ f k) → ((b : ℕ) → n ≤ b → f b ≡ 0)
    → cells (xs ++ drop n (replicate 64 0)) ≡ f
front_cells xs n f long few front far =
    cells_are (xs ++ drop n (replicate 64 0)) f
    (λ b l. ⊎_elim (λ m. front_at xs (replicate 64 0) n b 0 long m ∙ front b m) (λ m. rest_at xs (replicate 64 0) n b 0 long m ∙ get_or-replicate 64 b 0 0 l ∙ sym (far b m)) (cases_lt b n))
    (λ b l. far b (omega arith))

pub sheet_past : (m : List (List ℕ)) (a b : ℕ) → length m ≡ 64 → 64 ≤ a → sheet m a b ≡ 0
unfolding sheet cells
sheet_past m a b long l = grind (arith, nat_tests, get_or_past)

-- a test of an entry
pub cell_test : (row : List ℕ) (b i n : ℕ) (t : Bool) → b < 64 → t ≡ leb n (get_or row b 0 + i) → t ≡ leb n (cells row b + i)
cell_test row b i n t l e = e ∙ ap (λ (k : ℕ). leb n (k + i)) (sym (cell_at row b l))

pub front_sheet : (xs : List (List ℕ)) (n : ℕ) (f : ℕ → ℕ → ℕ) → length xs ≡ n → n ≤ 64 → ((k : ℕ) → k < n → cells (get_or xs k []) ≡ f k) → ((a b : ℕ) → n ≤ a → f a b ≡ 0)
    → sheet (xs ++ drop n (replicate 64 (replicate 64 0))) ≡ f
unfolding sheet
front_sheet xs n f long few front far = fun_ext λ a. ⊎_elim (λ l. ap cells (front_at xs blank n a [] long l) ∙ front a l) (past a) (cases_lt a n)
  where
    blank : List (List ℕ)
    blank = replicate 64 (replicate 64 0)

    past : (a : ℕ) → n ≤ a → cells (get_or (xs ++ drop n blank) a []) ≡ f a
    past a m =
        ap cells (rest_at xs blank n a [] long m)
        ∙ ⊎_elim (λ l. ap cells (get_or-replicate 64 a (replicate 64 0) [] l) ∙ fun_ext λ b. zero_cells b ∙ sym (far a b m))
        (λ l. fun_ext λ b. sheet_past blank a b refl l ∙ sym (far a b m)) (cases_lt a 64)
