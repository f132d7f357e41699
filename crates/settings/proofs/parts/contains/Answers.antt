use Rattle.std.proofs.Common.{◌≡◌, true, false, refl, arith, rules}
use Rattle.std.proofs.lemmas.Iterator.{cases_from_all, YieldsList-from_range}
use borrow.Author.Tests.{tests}
use Rattle.relations.specs.View.{rel}
use Rattle.relations.proofs.Ranges.{on_all}
use Rattle.settings.specs.Parts.{covers}
use Rattle.settings.proofs.Meeting.{all_decides, covered, covers_from}
use Rattle.settings.proofs.parts.contains.Goals as goal

pub returns : goal.returns
returns c =
    let r = rel c.args.r.now in
    let s = rel c.args.s.now in
    let all = all_decides _ 64 (covers r s)
    (cases_from_all _ _ _ (λ a. covers r s a ≡ true) (λ a. covers r s a ≡ false) c.all.ensures.ran (YieldsList-from_range 0 64 64 refl refl)
    (λ x q k. search (rules, tests)) (λ x q k. search (rules, tests))) in
    (λ h a b e. let on = on_all c.args.s.now a b e in covered r s a b (all.0 h a (omega arith)) (omega arith) e, λ within. all.1 (λ a l. covers_from r s a (within a)))
