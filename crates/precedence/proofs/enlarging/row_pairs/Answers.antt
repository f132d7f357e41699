use Rattle.std.proofs.Common.{rules}
use Rattle.settings.proofs.Settings.{sound, po_within, from_on_within}
use Rattle.precedence.proofs.Fencing.{section_is, period_is}
use Rattle.precedence.proofs.enlarging.row_pairs.Goals as goal

pub returns : goal.returns
returns c = search (rules, section_is, po_within, from_on_within, period_is, sound)
