use Rattle.std.proofs.Common.{◌≡◌, sym, refl, ◌∙◌, ap, arith, rules}
use Rattle.rows.specs.Row.{Set, bit}
use Rattle.executions.specs.Execution.{count}
use Rattle.sources.specs.Snapshot.{execution}
use Rattle.sources.proofs.Copying.{held_few}
use Rattle.basis.specs.Meaning.{tied}
use Rattle.basis.proofs.Filling.{by_rows_is}
use Rattle.basis.proofs.Members.{on_tied}
use Rattle.std.proofs.lemmas.Bool.{lt-ltb}
use Rattle.basis.proofs.orders.ties.Goals as goal

pub returns : goal.returns
unfolding tied
returns c =
    let x = execution c.args.case.now in
    let few = held_few c.args.case.now in
    record {
      pairs = by_rows_is c.by_rows.result (tied c.args.relation x) c.count.result (count x) c.count.ensures few c.by_rows.ensures.events (on_tied c.args.relation x) c.by_rows.ensures.rows
          (λ a w l p b k. let row : bit w ≡ x.ties c.args.relation a = search rules in ap (λ (s : Set). s b) row ∙ sym (rw (lt-ltb a (count x) l, lt-ltb b (count x) k) refl));
      events = omega (arith, few, c.count.ensures, c.by_rows.ensures.events);
    }
