use Rattle.std.proofs.Common.{ℕ, ◌-◌, ◌<◌, replicate, sym, refl, ◌∙◌, subst, arith, rules}
use Rattle.relations.specs.View.{rel}
use Rattle.precedence.specs.Rows.{sheet}
use Rattle.precedence.proofs.Joining.{rowed_none, rowed_more}
use Rattle.rounds.proofs.Layering.{tally_none, tally_before, tally_byte}
use Rattle.rounds.proofs.layers.Steps.approaches.Goals as goal

pub loop-j-init : goal.loop-j-init
loop-j-init c =
    rowed_more (replicate 64 (replicate 64 0)) _ _ 0 _ _ refl (omega arith) (rowed_none (replicate 64 (replicate 64 0)) _ refl)
    (c.at_end.ensures ∙ tally_none (rel c.args.self.now.period) (rel c.args.self.now.section) c.args.end)

pub farther-requires : goal.farther-requires
unfolding sheet
farther-requires c = λ k.
    subst (λ (f : ℕ → ℕ). f k < 255) (sym (c.loop-j.invariant.front (c.loop-j.j - 1) (omega arith)))
    (tally_byte (rel c.args.self.now.period) (rel c.args.self.now.section) (c.loop-j.j - 1) c.args.end k (omega arith))

pub loop-j-preserved : goal.loop-j-preserved
unfolding sheet
loop-j-preserved c = search (rules, rowed_more, tally_before)

pub returns : goal.returns
returns c = λ j l. c.loop-j.invariant.front j (omega arith)
