use Rattle.std.proofs.Common.{take, sym, arith}
use Rattle.std.proofs.lemmas.List.{get_or-take, get_or_past, length-take}
use Rattle.executions.specs.Execution.{unused}
use Rattle.sources.proofs.kinds.Snapshot.event.Goals as goal

pub returns-then-number-self : goal.returns-then-number-self
returns-then-number-self c = sym (get_or-take c.args.self.now.count c.args.self.now.events c.args.number unused c.if-number-self.true)

pub returns-else-number-self : goal.returns-else-number-self
returns-else-number-self c =
    sym (get_or_past (take c.args.self.now.count c.args.self.now.events) c.args.number unused
    (omega (arith, length-take c.args.self.now.count c.args.self.now.events)))
