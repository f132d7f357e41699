use Rattle.std.proofs.Common.{◌≡◌, ℕ, ◌+◌, ◌*◌, ap, ◌∙◌, arith}
use Rattle.std.proofs.lemmas.List.Edits.{fill_by_more}
use Rattle.rows.specs.Row.{count}
use Rattle.relations.specs.View.{rel}
use Rattle.searches.specs.Keys.{key}
use Rattle.searches.proofs.orders.keys.Goals as goal

pub loop-a-preserved : goal.loop-a-preserved
unfolding key
loop-a-preserved c =
    let here : c.count.result * 64 + c.loop-a.a ≡ key (rel c.args.before.now) c.loop-a.a =
    ap (λ (n : ℕ). n * 64 + c.loop-a.a) (c.count.ensures.value ∙ ap (count 64) c.row.ensures) in
    rw here (fill_by_more (key (rel c.args.before.now)) c.loop-a.key-items c.loop-a.a 0 (omega arith) c.loop-a.invariant)
