use Rattle.relations.specs.View.{rel}
use Rattle.searches.proofs.Cycling.{Ways}
use Rattle.searches.proofs.cycles.approaches.Given as goal

abbrev pub invariant-loop-j : goal.invariant-loop-j
invariant-loop-j l = Ways l.ways l.j (rel l.x) l.end
