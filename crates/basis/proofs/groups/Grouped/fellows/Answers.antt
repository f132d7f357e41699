use Rattle.std.proofs.Common.{sym, ap, ◌∙◌, rules}
use Rattle.executions.specs.Events.{in_program}
use Rattle.sources.specs.Snapshot.{execution}
use Rattle.sources.proofs.Copying.{held_few}
use Rattle.basis.proofs.Members.{fellows_at, alone_is}
use Rattle.basis.proofs.groups.Grouped.fellows.Goals as goal

pub returns-then-in_program : goal.returns-then-in_program
returns-then-in_program c = search (rules, fellows_at, held_few)

pub returns-else-in_program : goal.returns-else-in_program
returns-else-in_program c =
    alone_is (execution c.args.self.now.case.now) c.args.self.now.threads (held_few c.args.self.now.case.now) c.args.self.now.by_thread c.args.a c.with.result c.requires c.with.ensures
    (ap in_program (sym c.event-event.ensures) ∙ sym c.if-in_program.ensures)
