use Rattle.std.proofs.Common.{◌≡◌, ℕ, ◌<◌, ◌≤◌, false}
use Rattle.relations.specs.View.{rel}
use Rattle.searches.specs.Walks.{walks}
use Rattle.searches.proofs.cycles.shortest_cycle.Given as goal

abbrev pub invariant-loop-steps : goal.invariant-loop-steps
invariant-loop-steps l = (rel l.power ≡ walks l.steps (rel l.x)) × ((m b : ℕ) → 1 ≤ m → m < l.steps → walks m (rel l.x) b b ≡ false)
