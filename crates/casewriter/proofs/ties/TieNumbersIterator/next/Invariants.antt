use Rattle.std.proofs.Common.{◌≡◌, ◌-◌, ◌≤◌}
use Rattle.casewriter.specs.Listing.{lines_ahead}
use Rattle.casewriter.proofs.ties.TieNumbersIterator.next.Given as goal

-- what was passed over had no lines
abbrev pub invariant-loop-self : goal.invariant-loop-self
invariant-loop-self l = (l.self.case ≡ l.initial.self.case) × (l.initial.self.number ≤ l.self.number) × (lines_ahead l.initial.self ≡ lines_ahead l.self)

abbrev pub decreases-loop-self : goal.decreases-loop-self
decreases-loop-self l = 24576 - l.self.number
