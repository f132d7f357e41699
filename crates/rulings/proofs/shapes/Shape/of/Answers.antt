use Rattle.std.proofs.Common.{ℕ, ap, ◌∙◌}
use Rattle.rows.specs.Row.{any}
use Rattle.relations.specs.View.{rel}
use Rattle.basis.specs.Basis.{Basis}
use Rattle.basis.specs.Meaning.{basis}
use Rattle.rulings.proofs.Leading.{leading}
use Rattle.rulings.proofs.shapes.Shape.of.Goals as goal

pub returns : goal.returns
unfolding basis
returns c =
    let base = c.of-base.result in
    record {
      events_are = c.count.ensures;
      locks_are =
          leading (rel base.crit) (rel c.inverse.result) c.image.result c.inverse.ensures.pairs c.image.ensures ∙ ap (λ (b : Basis). λ (l : ℕ). any 64 (b.crit l)) c.of-base.ensures.same;
      periods_are = ap (λ (b : Basis). b.periods) c.of-base.ensures.same;
    }
