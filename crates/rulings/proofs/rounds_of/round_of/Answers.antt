use Rattle.relations.specs.View.{rel}
use Rattle.settings.specs.View as setting
use Rattle.lkmm.specs.Held.{held}
use Rattle.lkmm.specs.Model.{hb, pb}
use Rattle.lkmm.specs.Rules.{per_place, scene}
use Rattle.rulings.specs.declared.kinds.Rule.TheVariants.{Scpv, Hb, Pb, Rcu}
use Rattle.rulings.proofs.Rounding.{cyclic_same, broken_same, broken_at}
use Rattle.rulings.proofs.rounds_of.round_of.Goals as goal

pub cycle_page-requires : goal.cycle_page-requires
cycle_page-requires c =
    let m = c.args.question.now.model.now in
    cyclic_same (rel m.per_place) (per_place (held m)) m.per_place_is (broken_at (held m) c.args.rule Scpv c.in-Scpv.is c.requires)

pub cycle_page-requires-in-Hb : goal.cycle_page-requires-in-Hb
cycle_page-requires-in-Hb c = let m = c.args.question.now.model.now in cyclic_same (rel m.hb) (hb (held m)) m.hb_is (broken_at (held m) c.args.rule Hb c.in-Hb.is c.requires)

pub cycle_page-requires-in-Pb : goal.cycle_page-requires-in-Pb
cycle_page-requires-in-Pb c = let m = c.args.question.now.model.now in cyclic_same (rel m.pb) (pb (held m)) m.pb_is (broken_at (held m) c.args.rule Pb c.in-Pb.is c.requires)

pub marked_page-requires : goal.marked_page-requires
unfolding scene
marked_page-requires c =
    let m = c.args.question.now.model.now in
    broken_same (setting.scene c.args.question.now.setting) (scene (held m)) c.args.question.now.same_scene (broken_at (held m) c.args.rule Rcu c.in-Rcu.is c.requires)
