use Rattle.std.proofs.Common.{sym, ap, ◌∙◌, rules}
use Rattle.executions.specs.Events.{in_program}
use Rattle.sources.specs.Snapshot.{execution}
use Rattle.sources.proofs.Copying.{held_few}
use Rattle.basis.proofs.Members.{later_at, none_later}
use Rattle.basis.proofs.groups.Grouped.later.Goals as goal

pub returns-then-in_program : goal.returns-then-in_program
returns-then-in_program c = search (rules, later_at, held_few)

pub returns-else-in_program : goal.returns-else-in_program
returns-else-in_program c =
    none_later (execution c.args.self.now.case.now) c.args.self.now.threads (held_few c.args.self.now.case.now) c.args.self.now.by_thread c.args.a
    (ap in_program (sym c.event-event.ensures) ∙ sym c.if-in_program.ensures)
