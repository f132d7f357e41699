use Rattle.std.proofs.Common.{◌∙◌, sym, rules, tests}
use Rattle.std.proofs.lemmas.Iterator.{YieldsList-from_slice}
use Rattle.std.proofs.lemmas.Iterator.Adapters.{option_map_id}
use Rattle.std.proofs.lemmas.Iterator.Consumers.{YieldsList-from_copied}
use Rattle.std.proofs.lemmas.Iterator.Search.{find_from_yields_List}
use Rattle.std.specs.Str.{bytes_eq}
use Rattle.caselines.proofs.Wording.{called_find}
use Rattle.caselines.proofs.words.called.Goals as goal

pub returns : goal.returns
returns g c =
    let name = g.T.Keyword.name in
    sym (option_map_id c.find.result)
    ∙ find_from_yields_List (λ e. bytes_eq c.args.word.now (name e)) _ _ c.find.result c.find.ensures.ran (YieldsList-from_copied (YieldsList-from_slice c.args.among.now cc)) (λ x b q k. search (rules, tests))
    ∙ called_find name c.args.among.now c.args.word.now
