use Rattle.std.proofs.Common.{sym, ap, ◌∙◌, rules}
use Rattle.rows.specs.Row.{Set}
use Rattle.sources.specs.Snapshot.{execution}
use Rattle.basis.proofs.Members.{beside_at, none_beside}
use Rattle.basis.proofs.groups.Grouped.beside.Goals as goal

pub returns-then-has : goal.returns-then-has
returns-then-has c = search (rules, beside_at)

pub returns-else-has : goal.returns-else-has
returns-else-has c =
    none_beside (execution c.args.self.now.case.now) c.args.self.now.places c.args.self.now.by_place c.args.accesses c.requires c.args.a
    (ap (λ (s : Set). s c.args.a) (sym c.requires) ∙ sym c.if-has.ensures)
