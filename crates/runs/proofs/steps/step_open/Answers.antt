use Rattle.runs.proofs.Doing.{stays_exact}
use Rattle.runs.proofs.steps.step_open.Goals as goal

pub returns-in-Enter-clause-exact : goal.returns-in-Enter-clause-exact
returns-in-Enter-clause-exact c = stays_exact _ _ _ _ c.enter.ensures.does

pub returns-in-Tie-clause-exact : goal.returns-in-Tie-clause-exact
returns-in-Tie-clause-exact c = stays_exact _ _ _ _ c.tie.ensures.does

pub returns-in-Untie-clause-exact : goal.returns-in-Untie-clause-exact
returns-in-Untie-clause-exact c = stays_exact _ _ _ _ c.untie.ensures.does
