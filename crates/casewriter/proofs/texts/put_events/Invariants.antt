use Rattle.std.proofs.Common.{◌≡◌, ◌+◌, ◌*◌, ◌≤◌, take}
use Rattle.std.specs.List.{flat_map}
use Rattle.sources.specs.Snapshot.{execution}
use Rattle.casetext.specs.Text.{line, event_lines}
use Rattle.casewriter.specs.Laid.{Put}
use Rattle.casewriter.proofs.texts.put_events.Given as goal

-- the lines of the events so far are laid
abbrev pub invariant-loop-i : goal.invariant-loop-i
invariant-loop-i l =
    (l.pen.buffer.ghost_name ≡ l.initial.pen.buffer.ghost_name)
    × Put l.initial.pen.at (flat_map line (flat_map event_lines (take l.i (execution l.case).events))) l.initial.pen.buffer.now l.pen.buffer.now l.pen.at
    × (l.pen.at ≤ l.initial.pen.at + 48 * l.i)
