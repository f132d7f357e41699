use Rattle.std.proofs.Common.{◌≡◌, ◌+◌, ◌∙◌, length, ap, rules}
use borrow.Author.Tests.{tests}
use Rattle.std.specs.Iterator.Runs.{YieldsRun}
use Rattle.sources.specs.Snapshot.{execution}
use Rattle.casetext.specs.Text.{tie_lines, ties_in}
use Rattle.casewriter.specs.Listing.{lines_ahead}
use Rattle.casewriter.proofs.Gathering.{all_walked, one_more}
use Rattle.casewriter.proofs.texts.count_ties.Goals as goal

pub returns : goal.returns
unfolding YieldsRun
returns c =
    let x = execution c.args.case.now in
    let (lines, from, whole, counted) = c.count.ensures.runs in
    let (numbers, began, (ended, few, kept, same_items, folds)) = c.filter_map.ensures.runs lines lines.seen from in
    let ((t, gave, ends), at) = numbers.gave in
    let (u, end) = ends (ended ∙ whole) in
    let counts : c.count.result ≡ length (ties_in x) =
    counted
    ∙ folds (λ n k. n + length (tie_lines x k)) (λ k o f n called. search (rules, tests, one_more))
    ∙ all_walked x numbers.from t u numbers.items (ap (λ s. execution s.case.now) began ∙ ap execution c.of.ensures.same) gave end
    ∙ ap length (ap lines_ahead began ∙ c.of.ensures.all) in
    search rules
