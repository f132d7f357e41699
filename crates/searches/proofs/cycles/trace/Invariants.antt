use Rattle.relations.specs.View.{rel}
use Rattle.searches.proofs.Cycling.{Trail}
use Rattle.searches.proofs.cycles.trace.Given as goal

abbrev pub invariant-loop-i : goal.invariant-loop-i
invariant-loop-i l = Trail (rel l.x) l.events l.i l.steps l.start
