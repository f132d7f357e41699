-- Walks of exactly k steps, by the most period steps that one of them has.
use Rattle.std.specs.Prelude.{◌≡◌, ℕ, zero, suc, ◌+◌, ◌<◌, ◌≤◌, max, true, ◌==◌}
use Rattle.rows.specs.Row.{tick}
use Rattle.relations.specs.Algebra.{Set, Rel}
use Rattle.grace.specs.Sheet.{most}
use Rattle.rounds.specs.Marks.{by}
use Rattle.rounds.specs.declared.kinds.Mark.{Mark}

-- one period step more, where there is a walk at all
unfoldable pub raised : ℕ → ℕ
raised zero = zero
raised (suc n) = suc (suc n)

-- from a by a period step of p, or by a section step of s, on to the largest of v
unfoldable pub further : Rel → Rel → (ℕ → ℕ) → ℕ → ℕ
further p s v a = max (raised (most 64 (p a) v)) (most 64 (s a) v)

-- 1 and the most period steps that k steps from a to b have; 0 where no k steps lead there
unfoldable pub tally : Rel → Rel → ℕ → ℕ → ℕ → ℕ
tally p s zero b a = tick (a == b)
tally p s (suc k) b a = further p s (tally p s k b) a

-- a step to c goes on best: it is one of the steps of its mark, a walk leads on from c, and no step of either mark has more to its account
pub record BestStep (up down : Set) (v : ℕ → ℕ) (m : Mark) (c : ℕ) : Type 0 where
  pub room : c < 64
  pub taken : by up down m c ≡ true
  pub goes : 1 ≤ v c
  pub best : by 1 0 m + v c ≡ max (raised (most 64 up v)) (most 64 down v)
