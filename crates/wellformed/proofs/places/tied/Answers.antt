use Rattle.std.proofs.Common.{rules, ◌≡◌, ℕ, ◌<◌, ltb, ap, arith}
use Rattle.std.proofs.lemmas.Bool.{ltb-true, and_parts}
use Rattle.rows.specs.Row.{Set, bit}
use Rattle.relations.proofs.Built.{rows_are}
use Rattle.sources.specs.Snapshot.{execution}
use Rattle.sources.proofs.Copying.{held_few, held_count}
use Rattle.wellformed.specs.Events.{co}
use Rattle.wellformed.proofs.places.tied.Goals as goal

row_at : (w : ℕ) (s : Set) → bit w ≡ s → (b : ℕ) → bit w b ≡ s b
row_at w s e b = ap (λ (t : Set). t b) e

pub returns : goal.returns
returns c =
    rows_are c.by_rows.result _ (co (execution c.args.case.now)) c.by_rows.ensures.events
    (λ a b t.
    let from : a < c.args.case.now.count = ltb-true a c.args.case.now.count (and_parts (ltb a c.args.case.now.count) _ t).0 in
    let few = held_few c.args.case.now in
    let held = held_count c.args.case.now in
    (omega (arith, c.count.ensures), omega (arith, c.count.ensures, c.requires a b t)))
    c.by_rows.ensures.rows (λ a w l fits p b k. row_at w (co (execution c.args.case.now) a) (search rules) b)
