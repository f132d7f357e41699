use Rattle.std.proofs.Common.{rules}
use Rattle.std.proofs.lemmas.Bool.Decides.{nat_tests}
use Rattle.std.proofs.Common.{◌∙◌, arith}
use Rattle.relations.proofs.Tables.{done_none, done_is}
use Rattle.settings.specs.View.{scene}
use Rattle.settings.proofs.Settings.{sound}
use Rattle.precedence.proofs.Tabling.{row_start, first_on}
use Rattle.precedence.proofs.deciding.all_rows.Goals as goal

pub loop-l-init : goal.loop-l-init
loop-l-init c = (c.requires.after_sections ∙ row_start (scene c.args.x.now), done_none _)

pub add_row-requires : goal.add_row-requires
add_row-requires c = grind (arith, nat_tests)

pub returns : goal.returns
returns c = search (rules, done_is, first_on, sound)
