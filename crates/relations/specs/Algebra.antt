-- The algebra of relations on events, in which the model is written.
-- Events are numbers below 64. A relation is given by its test, so every definition here computes.
use Rattle.std.specs.Prelude.{ℕ, zero, suc, Bool, false, cond, not, ◌&&◌, ◌||◌, ◌==◌, nat_lt}
pub use Rattle.rows.specs.Row.{Set}
unfoldable pub use Rattle.rows.specs.Row.{any}

-- a relation between events
abbrev pub Rel : Type 0
Rel = ℕ → ℕ → Bool

-- no pair
unfoldable pub empty : Rel
empty a b = false

-- id: each of the first n events with itself
unfoldable pub identity : ℕ → Rel
identity n a b = a == b && nat_lt a n

-- r ∪ s
unfoldable pub union : Rel → Rel → Rel
union r s a b = r a b || s a b

-- r ∩ s
unfoldable pub inter : Rel → Rel → Rel
inter r s a b = r a b && s a b

-- r \ s
unfoldable pub diff : Rel → Rel → Rel
diff r s a b = r a b && not (s a b)

-- r^-1
unfoldable pub inverse : Rel → Rel
inverse r a b = r b a

-- r; s: a step of r, then a step of s
unfoldable pub seq : Rel → Rel → Rel
seq r s a b = any 64 (λ c. r a c && s c b)

-- one or more steps of r from a to b, the events in between below k
unfoldable pub paths : ℕ → Rel → Rel
paths zero r a b = r a b
paths (suc k) r a b = paths k r a b || (paths k r a k && paths k r k b)

-- r+: the transitive closure
unfoldable pub plus : Rel → Rel
plus r = paths 64 r

-- r?: r and each of the n events with itself
unfoldable pub opt : ℕ → Rel → Rel
opt n r = union r (identity n)

-- r*: the reflexive and transitive closure on n events
unfoldable pub star : ℕ → Rel → Rel
star n r = opt n (plus r)

-- S × T: every pair from S to T
unfoldable pub product : Set → Set → Rel
product s t a b = s a && t b

-- [S]; r: the pairs of r that begin in S
unfoldable pub from : Set → Rel → Rel
from s r a b = s a && r a b

-- r; [T]: the pairs of r that end in T
unfoldable pub to : Rel → Set → Rel
to r t a b = r a b && t b

-- the events of S below n
unfoldable pub within : ℕ → Set → Set
within n s a = nat_lt a n && s a

-- the event a alone
unfoldable pub only : ℕ → Set
only a x = x == a

-- the pair of a and b alone, where both are below n
unfoldable pub pair : ℕ → ℕ → ℕ → Rel
pair n a b = product (within n (only a)) (within n (only b))

-- r with the targets of a replaced by those of S below n; an a past n changes nothing
unfoldable pub replaced : ℕ → ℕ → Set → Rel → Rel
replaced n a s r x y = cond (x == a && nat_lt a n) (within n s y) (r x y)

-- the targets of the events in S
unfoldable pub image : Rel → Set → Set
image r s b = any 64 (λ a. s a && r a b)
