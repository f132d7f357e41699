use Rattle.std.proofs.Common.{◌≡◌, [], length}
use Rattle.tables.specs.Tables.{tables, plain_of, Exact}
use Rattle.casetext.specs.Reading.{start, scan, Tails}
use Rattle.casetext.proofs.Scanning.{Bounded}
use Rattle.casetext.proofs.reading.take_lines.Given as goal

-- what is left of the text, from here, gives what the whole text gives
abbrev pub invariant-loop-bytes : goal.invariant-loop-bytes
invariant-loop-bytes l =
    (scan (length l.initial.events) (length l.initial.ties) start (plain_of (tables l.initial.case l.initial.events l.initial.ties)) [] l.text
    ≡ scan (length l.initial.events) (length l.initial.ties) l.reader (plain_of (tables l.case l.events l.ties)) [] l.rest)
    × (Exact (tables l.initial.case l.initial.events l.initial.ties) → Exact (tables l.case l.events l.ties))
    × Tails l.initial.events l.initial.ties l.events l.ties
    × Bounded l.reader

abbrev pub decreases-loop-bytes : goal.decreases-loop-bytes
decreases-loop-bytes l = length l.rest
