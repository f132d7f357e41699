use Rattle.std.proofs.Common.{refl}
use Rattle.casetext.proofs.steps.step.Goals as goal

pub returns-in-InEvents-Event : goal.returns-in-InEvents-Event
returns-in-InEvents-Event c = rw (c.in-InEvents-Event.is-0, c.in-InEvents-Event.is-1) (record { does = c.event_step.ensures.does; tail = (c.event_step.ensures.tail, refl) })

pub returns-in-InTies-Tie : goal.returns-in-InTies-Tie
returns-in-InTies-Tie c = rw (c.in-InTies-Tie.is-0, c.in-InTies-Tie.is-1) (record { does = c.tie_step.ensures.does; tail = (refl, c.tie_step.ensures.tail) })
