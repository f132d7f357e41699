-- What a round of the code stands for.
use Rattle.std.specs.Prelude.{ℕ, List, take}
use Rattle.rounds.specs.declared.kinds.Mark.{Mark}
use Rattle.rounds.specs.declared.kinds.Round.{Round}

-- its events, in turn
unfoldable pub listed : Round → List ℕ
listed r = take r.steps r.events

-- the marks of their steps
unfoldable pub marks : Round → List Mark
marks r = take r.steps r.marks
