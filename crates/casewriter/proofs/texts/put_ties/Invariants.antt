use Rattle.std.proofs.Common.{◌≡◌, ◌+◌, ◌*◌, ◌≤◌, ◌++◌, length}
use Rattle.std.specs.List.{flat_map}
use Rattle.sources.specs.Snapshot.{execution}
use Rattle.casetext.specs.Text.{line, ties_in}
use Rattle.casewriter.specs.Laid.{Put}
use Rattle.casewriter.specs.Listing.{lines_left}
use Rattle.casewriter.proofs.texts.put_ties.Given as goal

-- the lines so far are laid
abbrev pub invariant-loop-line : goal.invariant-loop-line
invariant-loop-line l =
    (l.pen.buffer.ghost_name ≡ l.initial.pen.buffer.ghost_name)
    × Put l.initial.pen.at (flat_map line l.yielded) l.initial.pen.buffer.now l.pen.buffer.now l.pen.at
    × (l.pen.at ≤ l.initial.pen.at + 48 * length l.yielded)
    × (l.yielded ++ lines_left l.line-iterator ≡ ties_in (execution l.case))
