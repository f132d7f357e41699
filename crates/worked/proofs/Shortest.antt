-- Rounds of one step and of two are shortest where nothing shorter is there.
use Rattle.std.proofs.lemmas.Bool.Decides.{nat_tests}
use Rattle.std.proofs.Common.{◌≡◌, ℕ, ◌<◌, ◌≤◌, Bool, true, not, ◌&&◌, List, [], ◌∷◌, length, arith}
use Rattle.std.proofs.lemmas.Bool.{and_parts, not-true}
use Rattle.relations.specs.Algebra.{Rel}
use Rattle.searches.specs.Cycles.{IsShortest}
use Rattle.grace.specs.Scene.{Scene}
use Rattle.rounds.specs.declared.kinds.Mark.{Mark}
use Rattle.rounds.specs.declared.kinds.Mark.TheVariants.{Period, Section}
use Rattle.rounds.specs.Marks.{periods, sections, period_step, section_step}
use Rattle.rounds.specs.Rounds.{IsRound, IsShortestRound}
use Rattle.worked.proofs.Rows.{Rows, look}
use Rattle.worked.proofs.Programs.{Holds}
use Rattle.worked.proofs.Tests.{loops, at, no_loop}

-- ---- one step

pub shortest_one : (r : Rel) (a : ℕ) → r a a ≡ true → IsShortest r (a ∷ [])
shortest_one r a h = grind (arith, nat_tests)

-- ---- two steps

-- there and back, and no event is related to itself
unfoldable pub swings : ℕ → Rows → ℕ → ℕ → Bool
swings n t a b = look t a b && (look t b a && not (loops n t))

module _ (r : Rel) (a b : ℕ) (there : r a b ≡ true) (back : r b a ≡ true) (none : (c : ℕ) → r c c ≡ true → ⊥) where
  shortest_two : a < b → IsShortest r (a ∷ b ∷ [])
  shortest_two lt = grind (arith, nat_tests)

pub swings_shortest : (n : ℕ) (t : Rows) (r : Rel) → Holds n t r → (a b : ℕ) → a < b → swings n t a b ≡ true → IsShortest r (a ∷ b ∷ [])
unfolding swings
swings_shortest n t r h a b lt e =
    let p = and_parts _ _ e in
    let q = and_parts _ _ p.1 in
    shortest_two r a b (at n t r h a b p.0) (at n t r h b a q.0) (no_loop n t r h (not-true _ q.1)) lt

-- ---- a section step and a period step

module _ (p s : Rel) (none : (c : ℕ) → p c c ≡ true → ⊥) where
  round_least : (fs : List ℕ) (ns : List Mark) → IsRound p s fs ns → 2 ≤ length fs
  unfolding periods sections
  round_least [] ns c = absurd (omega (arith, c.some))
  round_least (e ∷ f ∷ fs) ns c = omega arith
  round_least (e ∷ []) [] c = absurd (omega (arith, c.marked))
  round_least (e ∷ []) (m ∷ n ∷ ns) c = absurd (omega (arith, c.marked))
  round_least (e ∷ []) (Period ∷ []) c = absurd (none e c.back)
  round_least (e ∷ []) (Section ∷ []) c = absurd (omega (arith, c.enough))

pub shortest_round : (x : Scene) (a b : ℕ) → section_step x a b ≡ true → period_step x b a ≡ true → ((c : ℕ) → period_step x c c ≡ true → ⊥)
    → a < b → 2 ≤ x.count → IsShortestRound x (a ∷ b ∷ []) (Section ∷ Period ∷ [])
unfolding periods sections
shortest_round x a b there back none lt few = grind (arith, nat_tests, round_least)
