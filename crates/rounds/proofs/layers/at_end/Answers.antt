use Rattle.std.proofs.Common.{rules}
use Rattle.std.proofs.lemmas.List.{get_or-replicate}
use Rattle.rounds.proofs.Layering.{unit_cells}
use Rattle.rounds.proofs.layers.at_end.Goals as goal

pub returns : goal.returns
returns c = search (rules, unit_cells, get_or-replicate)
