use Rattle.std.proofs.Common.{rules}
use Rattle.std.proofs.Common.{◌≡◌, ap, arith}
use Rattle.rows.specs.Row.{bit}
use Rattle.rows.specs.Row.{Set}
use Rattle.grace.specs.Sheet.{most}
use Rattle.precedence.specs.Rows.{sheet}
use Rattle.precedence.proofs.Cells.{zero_cells}
use Rattle.precedence.proofs.Largest.{most_gathers, most_all}
use Rattle.precedence.proofs.balances.onward.Goals as goal

pub loop-d-preserved : goal.loop-d-preserved
unfolding sheet
loop-d-preserved c = search (rules, most_gathers)

pub returns : goal.returns
returns c = search (rules, most_all)

pub loop-d-init : goal.loop-d-init
loop-d-init c = λ b. let e : bit c.into_iter-d-iterator.result.rest ≡ bit c.args.set = ap bit cc in omega (arith, zero_cells b, ap (λ (s : Set). most 64 s (λ d. sheet c.args.m.now d b)) e)
