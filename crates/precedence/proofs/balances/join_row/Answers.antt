use Rattle.std.proofs.Common.{rules}
use Rattle.std.proofs.Common.{ℕ, ◌≤◌, subst, arith}
use Rattle.grace.specs.Sheet.{joined}
use Rattle.precedence.proofs.Cells.{cell_at, cell_far, upto_none, upto_more, upto_here, upto_all}
use Rattle.precedence.proofs.Joining.{joined_second}
use Rattle.precedence.proofs.balances.join_row.Goals as goal

pub loop-b-init : goal.loop-b-init
loop-b-init c = upto_none _ _ (omega arith)

pub join-requires : goal.join-requires
join-requires c =
    subst (λ (n : ℕ). joined c.args.relay.now.periods c.args.relay.now.sections c.args.reach n ≤ 255)
    (cell_at c.args.on.now c.loop-b.b (omega arith)) (c.requires c.loop-b.b)

pub loop-b-preserved : goal.loop-b-preserved
loop-b-preserved c = search (rules, upto_more, upto_here, cell_at)

pub returns : goal.returns
returns c = search (rules, upto_all, cell_far, joined_second)
