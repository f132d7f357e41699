use Rattle.std.proofs.Common.{refl}
use Rattle.std.proofs.Output.{has_written_of_eq}
use Rattle.telling.specs.Lines.{allowed_lines}
use Rattle.telling.proofs.lines.AllowsDisplay.fmt.Goals as goal

pub returns-clause-writes : goal.returns-clause-writes
unfolding allowed_lines
returns-clause-writes g c p ok =
    has_written_of_eq _ _ _ _ _ (rw (c.firsts.ensures, c.seconds.ensures, c.count.ensures.value, c.count-2.ensures.value) refl) (c.write.ensures.writes p ok)
