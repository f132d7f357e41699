use Rattle.std.proofs.Common.{rules}
use Rattle.casewriter.proofs.Gathering.{ahead_bare, ahead_next, ahead_end}
use Rattle.casewriter.proofs.ties.TieNumbersIterator.next.Goals as goal

pub loop-self-preserved : goal.loop-self-preserved
loop-self-preserved c = search (rules, ahead_bare)

pub returns-in-loop-self-clause-steps : goal.returns-in-loop-self-clause-steps
returns-in-loop-self-clause-steps c = search (rules, ahead_next)

pub returns-in-loop-self-clause-goes : goal.returns-in-loop-self-clause-goes
returns-in-loop-self-clause-goes c = search rules

pub returns-clause-steps : goal.returns-clause-steps
returns-clause-steps c = search (rules, ahead_end)
