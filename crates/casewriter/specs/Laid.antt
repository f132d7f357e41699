-- Bytes that are laid into a buffer.
use Rattle.std.specs.Prelude.{◌≡◌, ℕ, ◌+◌, ◌%◌, ◌<◌, ◌≤◌, List, [], ◌∷◌, ◌++◌, length, drop, Some, None, decimal, Option, slice_set}
use Rattle.caselines.specs.declared.lines.Letter.{Letter}
use Rattle.caselines.specs.declared.lines.Letter.TheVariants.{Read, Write, Fence}
use Rattle.executions.specs.Execution.{Execution}
use Rattle.casetext.specs.Text.{tie_lines}

-- the buffer with some bytes from a place on; bytes past its end are left out
unfoldable pub laid : ℕ → List ℕ → List ℕ → List ℕ
laid at [] xs = xs
laid at (b ∷ bs) xs = laid (at + 1) bs (slice_set xs at b)

-- a call that lays some bytes from a place on, and answers the place behind them
pub record Put (at : ℕ) (bs xs ys : List ℕ) (end : ℕ) : Type 0 where
  pub bytes : ys ≡ laid at bs xs
  pub behind : end ≡ at + length bs

-- A text is written to the front of a buffer that has room for it; a shorter buffer stays as it is.
abbrev pub Writes : List ℕ → List ℕ → List ℕ → Option ℕ → Type 0
Writes text xs ys (Some n) = (length text ≤ length xs) × (n ≡ length text) × (ys ≡ text ++ drop (length text) xs)
Writes text xs ys None = (length xs < length text) × (ys ≡ xs)

-- the number begins a row of 64 ties of which the case has none
pub record Bare (x : Execution) (k : ℕ) : Type 0 where
  pub begins : k % 64 ≡ 0
  pub none : (j : ℕ) → j < 64 → tie_lines x (k + j) ≡ []

-- what there is, as a list
abbrev pub listed : {A : Type 0} → Option A → List A
listed None = []
listed (Some x) = x ∷ []

-- the place at the end of an event line, behind the mark word
abbrev pub place_field : Letter → ℕ → List ℕ
place_field Read n = 32 ∷ decimal n
place_field Write n = 32 ∷ decimal n
place_field Fence n = []
