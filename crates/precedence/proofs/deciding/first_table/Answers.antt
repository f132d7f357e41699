use Rattle.std.proofs.Common.{rules}
use Rattle.std.proofs.Common.{◌≡◌, false, is_some, sym, refl, ap, ◌∙◌, subst}
use Rattle.std.proofs.lemmas.Bool.{not-true, not-false, false≢true}
use Rattle.relations.specs.View.{rel}
use Rattle.grace.specs.Law.{Table}
use Rattle.grace.specs.First.{First}
use Rattle.grace.specs.Deciding.{rounds}
use Rattle.grace.proofs.Deciding.{deciding_law}
use Rattle.grace.proofs.Stages.{rounds_none}
use Rattle.precedence.specs.Rows.{sheet}
use Rattle.settings.specs.View.{scene}
use Rattle.settings.proofs.Settings.{sound, link_sheet_is}
use Rattle.precedence.proofs.Climbing.{period_start, section_start, period_stairs_fit, section_stairs_fit}
use Rattle.precedence.proofs.Tabling.{no_rounds, period_breaks, section_breaks}
use Rattle.precedence.proofs.deciding.first_table.Goals as goal

pub add_all-requires-clause-start : goal.add_all-requires-clause-start
add_all-requires-clause-start c =
    link_sheet_is c.args.x.now (rel c.link.result) (sheet c.links-m.result) c.link.ensures.pairs c.links-m.ensures ∙ period_start (scene c.args.x.now)

pub add_all-requires-clause-fits : goal.add_all-requires-clause-fits
add_all-requires-clause-fits c = period_stairs_fit (scene c.args.x.now) (sound c.args.x.now)

pub returns-in_err-add_all-clause-rule : goal.returns-in_err-add_all-clause-rule
returns-in_err-add_all-clause-rule c =
    let turned = not-false _ (sym c.in_err-add_all.ensures.calm) in (
      λ e. absurd (false≢true (sym (ap is_some c.from_residual.ensures) ∙ e)),
      λ rcu. absurd (period_breaks (scene c.args.x.now) (sound c.args.x.now) turned rcu),
    )

pub add_all-requires-2-clause-start : goal.add_all-requires-2-clause-start
add_all-requires-2-clause-start c = search (rules, section_start)

pub add_all-requires-2-clause-fits : goal.add_all-requires-2-clause-fits
add_all-requires-2-clause-fits c = search (rules, section_stairs_fit, sound)

pub returns-in_err-add_all-2-clause-rule : goal.returns-in_err-add_all-2-clause-rule
returns-in_err-add_all-2-clause-rule c =
    let turned = not-false _ (sym c.in_err-add_all-2.ensures.calm) in (
      λ e. absurd (false≢true (sym (ap is_some c.from_residual-in_err-add_all-2.ensures) ∙ e)),
      λ rcu. absurd (section_breaks (scene c.args.x.now) (sound c.args.x.now) turned rcu),
    )

pub all_rows-requires-clause-no_round : goal.all_rows-requires-clause-no_round
all_rows-requires-clause-no_round c = search (rules, no_rounds)

pub returns : goal.returns
returns c =
    let x = c.args.x.now in
    let none : rounds (scene x) ≡ false =
    no_rounds (scene x) (not-true _ (sym c.in_ok-add_all.ensures.calm))
    (not-true _ (sym c.in_ok-add_all-2.ensures.calm)) in
    let rcu = rounds_none (scene x) (sound x) none in
    record {
      rule = (λ _. rcu, λ _. refl);
      first = λ pb_kept. subst (λ (F : Table). First (scene x) F) (sym c.all_rows.ensures) ((deciding_law (scene x) (sound x) pb_kept).1 rcu);
      words = c.all_rows.ensures;
    }
