-- The lowest number in two words at once.
use Rattle.std.proofs.Common.{arith}
use Rattle.std.proofs.lemmas.Bool.Decides.{nat_tests}
use Rattle.std.proofs.Common.{◌≡◌, ℕ, ◌<◌, true, false, ◌&&◌, Option, None, Some, IsSome, MatchOption, refl, sym, ◌∙◌}
use lib.Bits.{bit_and}
use Rattle.std.proofs.lemmas.Bool.{both_ways}
use Rattle.rows.specs.Row.{bit, Lowest}
use Rattle.rows.proofs.Bits.{bit-bit_and}
use Rattle.relations.specs.Algebra.{any}
use Rattle.rows.proofs.Any.{any_some}

pub meet_some : (v w : ℕ) (r : Option ℕ) → any 64 (λ c. bit v c && bit w c) ≡ true
    → MatchOption r ((x : ℕ) → bit (bit_and v w) x ≡ false) (λ c. Lowest (bit (bit_and v w)) c) → IsSome r
meet_some v w None h none = let e = any_some 64 (λ c. bit v c && bit w c) h in absurd (both_ways _ (sym (bit-bit_and v w e.0) ∙ none e.0) e.2)
meet_some v w (Some c) h low = refl

pub meet_parts : (v w c : ℕ) (r : Option ℕ) → r ≡ Some c → MatchOption r ((x : ℕ) → bit (bit_and v w) x ≡ false) (λ c. Lowest (bit (bit_and v w)) c)
    → record { room : c < 64; target : bit v c ≡ true; way : bit w c ≡ true }
meet_parts v w c r e m = grind (arith, nat_tests, bit-bit_and)
