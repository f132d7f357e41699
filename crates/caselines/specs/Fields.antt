-- The parts of a line: fields that one space parts, decimal numbers, and words.
use Rattle.std.specs.Prelude.{ℕ, ◌+◌, ◌-◌, ◌*◌, Bool, cond, not, ◌&&◌, ◌||◌, List, [], ◌∷◌, length, Some, None, Option, ◌==◌, nat_le, slice_index}
use Rattle.std.specs.Str.{all_ascii_digits, bytes_eq}

-- what a value gives, where there is one
abbrev pub then : {A B : Type 0} → Option A → (A → Option B) → Option B
then None f = None
then (Some x) f = f x

-- ---- cutting

-- c in front of the first of two parts
abbrev pub behind : ℕ → Option (List ℕ × List ℕ) → Option (List ℕ × List ℕ)
behind c None = None
behind c (Some p) = Some (c ∷ p.0, p.1)

-- what stands before the first byte `stop`, and what stands after it
unfoldable pub cut : ℕ → List ℕ → Option (List ℕ × List ℕ)
cut stop [] = None
cut stop (c ∷ cs) = cond (c == stop) (Some ([], cs)) (behind c (cut stop cs))

-- ---- numbers

-- the number that digits write after the number n
abbrev pub reading : ℕ → List ℕ → ℕ
reading n [] = n
reading n (c ∷ cs) = reading (10 * n + (c - 48)) cs

-- one to five digits, the first of several not 0
abbrev pub numeral : List ℕ → Bool
numeral ds = (nat_le 1 (length ds) && nat_le (length ds) 5) && ((length ds == 1 || not (slice_index ds 0 == 48)) && all_ascii_digits ds)

-- the number that a field writes, if it writes one
unfoldable pub number_of : List ℕ → Option ℕ
number_of ds = cond (numeral ds) (Some (reading 0 ds)) None

-- ---- words

-- the one of some things that has the name w
abbrev pub called : {E : Type 0} → (E → List ℕ) → List E → List ℕ → Option E
called name [] w = None
called name (e ∷ es) w = cond (bytes_eq w (name e)) (Some e) (called name es w)
