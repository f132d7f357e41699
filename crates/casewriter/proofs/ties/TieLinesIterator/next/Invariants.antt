use Rattle.std.proofs.Common.{◌≡◌, ◌-◌}
use Rattle.casewriter.specs.Listing.{lines_left}
use Rattle.casewriter.proofs.ties.TieLinesIterator.next.Given as goal

-- what was passed over had no lines
abbrev pub invariant-loop-number : goal.invariant-loop-number
invariant-loop-number l = lines_left l.initial.self ≡ lines_left l.self

abbrev pub decreases-loop-number : goal.decreases-loop-number
decreases-loop-number l = 24576 - l.self.numbers.number
