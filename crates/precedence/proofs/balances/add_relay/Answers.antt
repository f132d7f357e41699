use Rattle.std.proofs.Common.{rules}
use Rattle.std.proofs.Common.{ℕ, ◌≤◌, max, sym, ap, ◌∙◌, subst, ap₂, arith}
use mathlib.Core.Path.{fun_ext}
use Rattle.rows.specs.Row.{bit}
use Rattle.grace.specs.Sheet.{joined}
use Rattle.precedence.specs.Rows.{cells}
use Rattle.precedence.proofs.Cells.{cell_at}
use Rattle.precedence.proofs.Joining.{rowed_none, rowed_more, rowed_here, rowed_all, relayed_row, relayed_still, relayed_byte, relayed_far}
use Rattle.precedence.proofs.balances.add_relay.Goals as goal
use Rattle.precedence.proofs.balances.add_relay.Goals.{then-reach-a-ne0, else-reach-a-ne0}

pub loop-a-init : goal.loop-a-init
loop-a-init c = rowed_none _ _ (omega arith)

pub join_row-requires : goal.join_row-requires
join_row-requires c = λ b.
    subst (λ (n : ℕ). joined c.args.relay.now.periods c.args.relay.now.sections n (cells c.onward-on.result b) ≤ 255)
    (cell_at c.args.reach.now c.loop-a.a (omega arith))
    (relayed_byte c.args.m.now (bit c.args.relay.now.into) (bit c.args.relay.now.out) _ _ (cells c.args.reach.now) (cells c.onward-on.result)
    c.requires.reached c.onward-on.ensures c.loop-a.a c.requires.fits b)

pub loop-a-preserved : goal.loop-a-preserved
loop-a-preserved c = elim c.if-reach-a-ne0.branch [
  | then-reach-a-ne0 w ↦
      (rowed_more _ _ _ _ _ _ w.m-is (omega arith) c.loop-a.invariant
      (relayed_row c.args.m.now _ _ _ _ (cells c.args.reach.now) (cells c.onward-on.result) c.requires.reached c.onward-on.ensures c.loop-a.a _
      (w.join_row.ensures ∙ fun_ext λ b.
      ap₂ max (ap (λ (f : ℕ → ℕ). f b) (rowed_here _ _ _ _ c.loop-a.invariant))
      (ap (λ (n : ℕ). joined c.args.relay.now.periods c.args.relay.now.sections n (cells c.onward-on.result b)) (sym (cell_at c.args.reach.now c.loop-a.a (omega arith)))))))
  | else-reach-a-ne0 w ↦
      (rowed_more _ _ _ _ _ _ w.m-is (omega arith) c.loop-a.invariant
      (rowed_here _ _ _ _ c.loop-a.invariant
      ∙ relayed_still c.args.m.now _ _ _ _ (cells c.args.reach.now) (cells c.onward-on.result) c.requires.reached c.onward-on.ensures c.loop-a.a
      (cell_at c.args.reach.now c.loop-a.a (omega arith) ∙ w.if-reach-a-ne0.false)))
]

pub returns : goal.returns
returns c = search (rules, rowed_all, relayed_far)
