use Rattle.std.proofs.Common.{ℕ, ◌<◌, sym, refl, ap, ◌∙◌, subst, arith}
use Rattle.relations.specs.View.{rel}
use Rattle.precedence.proofs.Joining.{rowed_none, rowed_more, rowed_here}
use Rattle.rounds.specs.Layers.{further}
use Rattle.rounds.proofs.layers.Steps.deepen.Goals as goal

pub loop-row-init : goal.loop-row-init
loop-row-init c = rowed_none _ _ (omega arith)

pub farther-requires : goal.farther-requires
farther-requires c = λ k. subst (λ (f : ℕ → ℕ). f k < 255) (sym (rowed_here _ _ _ _ c.loop-row.invariant)) (c.requires c.loop-row.row-index k (omega arith))

pub loop-row-preserved : goal.loop-row-preserved
loop-row-preserved c =
    rowed_more _ _ _ _ _ _ refl (omega arith) c.loop-row.invariant
    (c.farther.ensures ∙ ap (further (rel c.args.self.now.period) (rel c.args.self.now.section)) (rowed_here _ _ _ _ c.loop-row.invariant))

pub returns : goal.returns
returns c = λ b l. c.loop-row.invariant.front b (omega arith)
