use Rattle.std.proofs.Common.{◌≡◌, ℕ, ◌-◌, ◌<◌, replicate, sym, refl, subst, arith}
use Rattle.relations.specs.View.{rel}
use Rattle.precedence.specs.Rows.{sheet}
use Rattle.rounds.specs.View.{listed, marks}
use Rattle.rounds.specs.declared.kinds.Mark.TheVariants.{Period}
use Rattle.rounds.proofs.Layering.{tally_byte}
use Rattle.rounds.proofs.Trails.{trail_first, trail_goes, trail_more, trail_round, trail_size, trail_first_event}
use Rattle.rounds.proofs.search.trace.Goals as goal

pub loop-i-init : goal.loop-i-init
loop-i-init c =
    trail_first (rel c.args.by.now.period) (rel c.args.by.now.section) (replicate 64 0) (replicate 64 Period) c.args.steps c.args.start refl refl c.requires.room
    (omega (arith, c.requires.closes))

pub onward-step-requires : goal.onward-step-requires
unfolding sheet
onward-step-requires c =
    let way = c.approaches-ways.ensures (c.args.steps - 1 - c.loop-i.i) (omega arith) in record { rows_fit = (λ b. subst (λ (f : ℕ → ℕ). f b < 255) (sym way) (tally_byte (rel c.args.by.now.period) (rel c.args.by.now.section) (c.args.steps - 1 - c.loop-i.i) c.args.start b (omega (arith, c.requires.few)))); some_way = trail_goes _ _ _ _ _ _ _ _ (omega arith) c.loop-i.invariant _ _ _ c.row.ensures c.row-in-loop-i.ensures way }

pub loop-i-preserved : goal.loop-i-preserved
unfolding sheet
loop-i-preserved c =
    let way = c.approaches-ways.ensures (c.args.steps - 1 - c.loop-i.i) (omega arith) in
    trail_more _ _ _ _ _ _ _ _ (omega arith) c.loop-i.invariant _ _ _ c.row.ensures c.row-in-loop-i.ensures way _ _ c.requires.few c.onward-step.ensures

pub returns : goal.returns
unfolding listed marks
returns c =
    let end : c.loop-i.i ≡ c.args.steps = omega arith in
    record {
      round = trail_round _ _ _ _ _ _ _ _ c.requires.some c.requires.few end c.loop-i.invariant c.requires.closes;
      long = trail_size _ _ _ _ _ _ _ _ c.requires.some c.requires.few end c.loop-i.invariant c.requires.closes;
      first = trail_first_event _ _ _ _ _ _ _ _ c.requires.some c.requires.few end c.loop-i.invariant c.requires.closes;
    }
