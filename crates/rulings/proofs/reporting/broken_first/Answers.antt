use Rattle.std.proofs.Common.{◌∙◌, not, sym, rules, tests}
use Rattle.std.proofs.lemmas.Iterator.{YieldsList-from_slice}
use Rattle.std.proofs.lemmas.Iterator.Adapters.{option_map_id}
use Rattle.std.proofs.lemmas.Iterator.Consumers.{YieldsList-from_copied}
use Rattle.std.proofs.lemmas.Iterator.Search.{find_from_yields_List}
use Rattle.rulings.specs.Rules.{rules as all_rules}
use Rattle.rulings.specs.Rulings.{kept, report_of}
use Rattle.rulings.proofs.reporting.broken_first.Goals as goal

pub returns : goal.returns
returns c =
    sym (option_map_id c.find.result)
    ∙ find_from_yields_List (λ k. not (kept (report_of c.args.reports k))) _ _ c.find.result c.find.ensures.ran (YieldsList-from_copied (YieldsList-from_slice all_rules (cc))) (λ x b q k. search (rules, tests))
