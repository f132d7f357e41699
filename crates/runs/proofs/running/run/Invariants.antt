use Rattle.std.proofs.Common.{◌≡◌, ◌≤◌, length, take, drop}
use Rattle.tables.specs.Tables.{Exact}
use Rattle.runs.specs.Runs.{Run}
use Rattle.runs.specs.States.{plain, tables_of, StillFormed}
use Rattle.runs.proofs.running.run.Given as goal

-- the calls so far are a run, and the tables represent the plain case at its end
abbrev pub invariant-loop-i : goal.invariant-loop-i
invariant-loop-i l = record {
  so_far : Run (length l.events) (length l.ties) (take l.i l.calls) (take l.i l.answers) (plain l.state l.events l.ties);
  exact : Exact (tables_of l.state l.events l.ties);
  formed : StillFormed l.state l.events l.ties;
  records : 64 ≤ length l.events;
  words : 384 ≤ length l.ties;
  rest : drop l.i l.answers ≡ drop l.i l.initial.answers;
}
