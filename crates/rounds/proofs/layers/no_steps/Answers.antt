use Rattle.std.proofs.Common.{[], rules}
use Rattle.precedence.specs.Rows.{sheet}
use Rattle.rounds.proofs.layers.no_steps.Goals as goal

pub returns : goal.returns
unfolding sheet
returns c = λ b l. let h = (c.from_fn.ensures.items.at b [] l).2.met in search rules
