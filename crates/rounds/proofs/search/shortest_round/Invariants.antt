use Rattle.std.proofs.Common.{◌≡◌, ℕ, ◌-◌, ◌<◌, ◌≤◌}
use Rattle.relations.specs.View.{rel}
use Rattle.precedence.specs.Rows.{sheet}
use Rattle.settings.specs.View.{scene}
use Rattle.settings.proofs.Settings.{sound}
use Rattle.rounds.specs.Layers.{tally}
use Rattle.rounds.proofs.Layering.{Open}
use Rattle.rounds.proofs.search.shortest_round.Given as goal

abbrev pub invariant-loop-steps : goal.invariant-loop-steps
invariant-loop-steps v =
    ((b : ℕ) → b < 64 → sheet v.layer b ≡ tally (rel v.by.period) (rel v.by.section) (v.steps - 1) b)
    × ((j : ℕ) → 1 ≤ j → j < v.steps → Open (scene v.x) (sound v.x) j)
