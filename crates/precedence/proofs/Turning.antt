-- The test of a round, by the word of the events that close one.
use Rattle.std.proofs.Common.{arith}
use Rattle.std.proofs.lemmas.Bool.Decides.{nat_tests}
use Rattle.std.proofs.Common.{◌≡◌, ℕ, ◌+◌, Bool, false, ◌&&◌, leb, ap, ◌∙◌}
use Rattle.relations.specs.Algebra.{Set, any, within}
use Rattle.grace.specs.Sheet.{Sheet, most, relayed, turns}
use Rattle.grace.proofs.Sheets.{relayed_idle}
use Rattle.settings.proofs.Meeting.{any_same}
use Rattle.precedence.proofs.Gathering.{gathered_at}

pub turns_when : (m : Sheet) (into out closing : Set) (i j : ℕ) (reach : ℕ → ℕ) → reach ≡ (λ d. most 64 into (m d)) → closing ≡ within 64 (λ d. leb (128 + j) (reach d + i))
    → any 64 (λ c. out c && closing c) ≡ turns m into out i j
unfolding turns
turns_when m into out closing i j reach r e =
    any_same 64 (λ c. out c && closing c) (λ d. out d && leb (128 + j) (most 64 into (m d) + i))
    (λ k l. ap (λ (b : Bool). out k && b) (gathered_at closing (λ d. leb (128 + j) (reach d + i)) k l e ∙ ap (λ (f : ℕ → ℕ). leb (128 + j) (f k + i)) r))

-- a relay that nothing enters
pub relayed_none : (m : Sheet) (into out : Set) (i j : ℕ) → ((a : ℕ) → into a ≡ false) → m ≡ relayed m into out i j
relayed_none m into out i j none = grind (arith, nat_tests, relayed_idle)
