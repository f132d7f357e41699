-- Groups of events, filled one event at a time.
use Rattle.std.proofs.lemmas.Bool.Decides.{nat_tests}
use Rattle.std.proofs.Common.{◌≡◌, ℕ, ◌<◌, Bool, true, false, ◌&&◌, ◌||◌, eqb, List, length, get_or, set, replicate, refl, arith, get_or-set_other, get_or-set_same}
use lib.ListN.{get_or-replicate}
use Rattle.std.proofs.lemmas.Bool.{le-ltb}
use Rattle.rows.specs.Row.{bit, adding}
use Rattle.rows.proofs.Bits.{bit_zero}
use Rattle.basis.specs.Groups.{Grouped}

or-false : (x y : Bool) → y ≡ false → (x || y) ≡ x
or-false true y e = refl
or-false false y e = e

-- one event more in the group numbered i
pub put_is : (gs : List ℕ) (i w e k b : ℕ) → i < length gs → e < 64 → bit w ≡ adding e (bit (get_or gs i 0))
    → bit (get_or (set gs i w) k 0) b ≡ (bit (get_or gs k 0) b || (eqb b e && eqb i k))
unfolding adding
put_is gs i w e k b room few grown = grind (arith, nat_tests, get_or-set_same, get_or-set_other, or-false)

-- no event is in a group at first
pub grouped_none : (number : ℕ → ℕ) → Grouped number 0 (replicate 256 0)
grouped_none number k b l = rw (get_or-replicate {A = ℕ} 256 k 0 0 l, bit_zero b, le-ltb b 0 (omega arith)) refl
