use Rattle.std.proofs.Common.{◌≡◌, take}
use Rattle.sources.proofs.snapshot.copy_events.Given as goal

-- the events so far are the source's
abbrev pub invariant-loop-i : goal.invariant-loop-i
invariant-loop-i g l = take l.i l.event-items ≡ take l.i (g.S.CaseSource.meaning l.source).events
