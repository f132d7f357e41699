use Rattle.relations.specs.View.{rel}
use Rattle.rounds.proofs.Trails.{Trail}
use Rattle.rounds.proofs.search.trace.Given as goal

abbrev pub invariant-loop-i : goal.invariant-loop-i
invariant-loop-i v = Trail (rel v.by.period) (rel v.by.section) v.events v.marks v.i v.steps v.start v.at
