-- The mark of a step: how it counts, and its number.
use Rattle.std.specs.Prelude.{ℕ, suc, List, [], ◌∷◌}
use Rattle.relations.specs.Algebra.{Rel, seq}
use Rattle.grace.specs.Scene.{Scene, gp, rscs, link}
use Rattle.rounds.specs.declared.kinds.Mark.{Mark}
use Rattle.rounds.specs.declared.kinds.Mark.TheVariants.{Period, Section}

-- the number that stands for a mark
abbrev pub number : Mark → ℕ
number Period = 1
number Section = 2

-- how many of the marks are periods
unfoldable pub periods : List Mark → ℕ
periods [] = 0
periods (Period ∷ ms) = suc (periods ms)
periods (Section ∷ ms) = periods ms

-- and how many are sections
unfoldable pub sections : List Mark → ℕ
sections [] = 0
sections (Period ∷ ms) = sections ms
sections (Section ∷ ms) = suc (sections ms)

-- of two things, that of the mark: the first for a period, the other for a section
abbrev pub by : {A : Type 0} → A → A → Mark → A
by p s Period = p
by p s Section = s

-- a period step: gp, then a link
unfoldable pub period_step : Scene → Rel
period_step x = seq (gp x) (link x x.strong)

-- a section step: rscs, then a link
unfoldable pub section_step : Scene → Rel
section_step x = seq (rscs x) (link x x.strong)
