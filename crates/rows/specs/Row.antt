-- A row of targets as a set of numbers.
use Rattle.std.specs.Prelude.{◌≡◌, ℕ, zero, suc, ◌+◌, ◌/◌, ◌%◌, ◌^◌, ◌<◌, Bool, true, false, not, ◌&&◌, ◌||◌, ◌==◌, nat_lt}

-- a set of numbers, by its membership test
abbrev pub Set : Type 0
Set = ℕ → Bool

-- the numbers in a row: b is in it when bit b of the word is 1
unfoldable pub bit : ℕ → Set
bit row b = (row / 2 ^ b) % 2 == 1

-- the set with b as well, where a row has room for b
unfoldable pub adding : ℕ → Set → Set
adding b s x = s x || (x == b && nat_lt b 64)

-- the set without b
unfoldable pub dropping : ℕ → Set → Set
dropping b s x = s x && not (x == b)

-- some number below n is in the set
unfoldable pub any : ℕ → Set → Bool
any zero s = false
any (suc n) s = s n || any n s

-- the numbers below n, as far as a row has room
unfoldable pub below : ℕ → Set
below n x = nat_lt x n && nat_lt x 64

-- c is the lowest number of the set
pub record Lowest (s : Set) (c : ℕ) : Type 0 where
  pub room : c < 64
  pub member : s c ≡ true
  pub first : (x : ℕ) → x < c → s x ≡ false

-- one for a number in the set, nothing for another
abbrev pub tick : Bool → ℕ
tick true = 1
tick false = 0

-- how many numbers below n are in the set
unfoldable pub count : ℕ → Set → ℕ
count zero s = 0
count (suc n) s = tick (s n) + count n s
