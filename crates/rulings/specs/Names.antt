-- The words for rules, reports and a breach.
use Rattle.std.specs.Prelude.{ℕ, List, ◌++◌, codes, decimal}
use Rattle.rulings.specs.declared.kinds.Breach.{Breach}
use Rattle.rulings.specs.declared.kinds.Rule.{Rule}
use Rattle.rulings.specs.declared.kinds.Rule.TheVariants.{Scpv, At, Hb, Pb, Rcu}
use Rattle.rulings.specs.declared.kinds.Report.{Report}
use Rattle.rulings.specs.declared.kinds.Report.TheVariants.{Kept, Broken}

abbrev pub rule_name : Rule → List ℕ
rule_name Scpv = codes "Scpv"
rule_name At = codes "At"
rule_name Hb = codes "Hb"
rule_name Pb = codes "Pb"
rule_name Rcu = codes "Rcu"

abbrev pub report_name : Report → List ℕ
report_name Kept = codes "kept"
report_name Broken = codes "broken"

-- a breach in words
abbrev pub breach_told : Breach → List ℕ
breach_told b = rule_name b.rule ++ codes ", round of " ++ decimal b.length
