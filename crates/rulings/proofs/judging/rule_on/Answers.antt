use Rattle.std.proofs.Common.{List, is_some, sym, subst}
use Rattle.std.proofs.lemmas.Bool.Decides.{Decides-at}
use Rattle.grace.specs.Scene.{Sound}
use Rattle.settings.specs.View as setting
use Rattle.settings.proofs.Settings.{sound}
use Rattle.lkmm.specs.Held.{held}
use Rattle.lkmm.specs.Rules.{Scpv, Hb, scene}
use Rattle.rulings.specs.declared.kinds.Rule.TheVariants.{Scpv as ScpvRule, Hb as HbRule}
use Rattle.rulings.specs.declared.kinds.SheetRow.{SheetRow}
use Rattle.rulings.specs.declared.kinds.Verdict.{Verdict}
use Rattle.rulings.specs.Rulings.{Ruled}
use Rattle.rulings.proofs.Assembling.{decided, rcu_decided, all_kept, says_kept, orderable, ruled_forbidden, ruled_allowed}
use Rattle.rulings.proofs.judging.rule_on.Goals as goal
use Rattle.rulings.proofs.judging.rule_on.Goals.{in-Some, in-None}

pub report_all-reports-requires : goal.report_all-reports-requires
unfolding scene
report_all-reports-requires c =
    let q = c.args.question.now in
    let t = c.first_table-table.result in
    Decides-at c.is_some.result (is_some t) c.is_some.ensures (rcu_decided (setting.scene q.setting) (scene (held q.model.now)) (is_some t) q.same_scene c.first_table-table.ensures.rule)

pub allow-requires : goal.allow-requires
allow-requires c =
    let q = c.args.question.now in
    let b = held q.model.now in
    let r = c.report_all-reports.result in
    let t = c.first_table-table.result in
    let none = c.in-None.ensures in
    let k = all_kept r (sym none) in
    let d = decided (setting.scene q.setting) (scene b) t q.same_scene c.first_table-table.ensures.rule c.first_table-table.ensures.first c.first_table-table.ensures.words in
    record {
      scpv_kept = says_kept r.scpv (Scpv b) k.0 (c.report_all-reports.ensures ScpvRule);
      hb_kept = says_kept r.hb (Hb b) k.2 (c.report_all-reports.ensures HbRule);
      orderable = orderable b r t c.report_all-reports.ensures d none;
    }

pub returns : goal.returns
returns c =
    let q = c.args.question.now in
    let b = held q.model.now in
    let r = c.report_all-reports.result in
    let t = c.first_table-table.result in
    let ok = subst Sound q.same_scene (sound q.setting) in
    let d = decided (setting.scene q.setting) (scene b) t q.same_scene c.first_table-table.ensures.rule c.first_table-table.ensures.first c.first_table-table.ensures.words in
    elim c.match-broken_first.branch [
      | in-Some w ↦ subst (λ (v : Verdict × List SheetRow). Ruled b v.1 (record { reports = r; verdict = v.0 })) (sym w.verdict-is)
          (ruled_forbidden b r t w.in-Some.rule c.words-words.result w.forbid.result.1 w.forbid.result.0 ok c.report_all-reports.ensures d c.words-words.ensures w.in-Some.ensures w.forbid.ensures)
      | in-None w ↦ subst (λ (v : Verdict × List SheetRow). Ruled b v.1 (record { reports = r; verdict = v.0 })) (sym w.verdict-is)
          (ruled_allowed b r t c.words-words.result w.allow.result ok c.report_all-reports.ensures d c.words-words.ensures w.in-None.ensures w.allow.ensures)
    ]
