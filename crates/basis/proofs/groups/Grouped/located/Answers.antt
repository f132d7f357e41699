use Rattle.std.proofs.Common.{◌≡◌, ap, arith, rules}
use Rattle.rows.specs.Row.{Set, bit}
use Rattle.executions.specs.Execution.{count}
use Rattle.sources.specs.Snapshot.{execution}
use Rattle.sources.proofs.Copying.{held_few}
use Rattle.basis.specs.Meaning.{loc}
use Rattle.basis.proofs.Filling.{by_rows_is}
use Rattle.basis.proofs.Members.{on_loc}
use Rattle.basis.proofs.groups.Grouped.located.Goals as goal

pub returns : goal.returns
returns c =
    let x = execution c.args.self.now.case.now in
    let few = held_few c.args.self.now.case.now in
    record {
      pairs = by_rows_is c.by_rows.result (loc x) c.count.result (count x) c.count.ensures few c.by_rows.ensures.events (on_loc x) c.by_rows.ensures.rows
          (λ a w l p b k. let row : bit w ≡ loc x a = search rules in ap (λ (s : Set). s b) row);
      events = omega (arith, few, c.count.ensures, c.by_rows.ensures.events);
    }
