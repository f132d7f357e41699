-- The tests that Rcu is decided by, one for each grace period and one for each section.
use Rattle.relations.specs.Algebra.{Set}
use Rattle.grace.specs.Scene.{Scene}
use Rattle.grace.specs.Law.{before_unlock, from_on}
use Rattle.grace.specs.Sheet.{turns}
use Rattle.grace.specs.Deciding.{before_period, period_sheet, section_sheet}

-- the period s makes a round with the links and the periods before it
abbrev pub period_turns : Scene → Set
period_turns x s = turns (period_sheet x s) (before_period x s) (from_on x s) 1 0

-- the section with lock l makes a round with these, the periods and the sections before it
abbrev pub section_turns : Scene → Set
section_turns x l = turns (section_sheet x l) (before_unlock x l) (from_on x l) 0 1
