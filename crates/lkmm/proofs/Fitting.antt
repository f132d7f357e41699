-- The relations of a model fit together for the grace-period law.
use Rattle.std.proofs.lemmas.Bool.Decides.{nat_tests}
use Rattle.std.proofs.Common.{◌≡◌, arith}
use Rattle.relations.specs.Algebra.{union}
use Rattle.grace.specs.Scene as Scenes
use Rattle.settings.specs.Parts.{Fit, scene_of}
use Rattle.basis.specs.Basis.{Basis}
use Rattle.lkmm.specs.Model.{gp, strong_fence, pb, link, rscs}
use Rattle.lkmm.specs.Rules.{scene, SameWords}
use Rattle.lkmm.specs.Held.{held}
use Rattle.lkmm.specs.declared.kinds.Model.{Model}

-- they are on the same events, and every grace period is a strong fence
pub fits : (m : Model) → Fit m.base.po m.prop m.hb m.strong m.base.crit m.base.periods
unfolding scene_of Scenes.gp gp strong_fence union
fits m = grind (arith, nat_tests)

-- the scene of the law is that of the model
pub same_scene : (m : Model) → scene_of m.base.po m.prop m.hb m.strong m.base.crit m.base.periods ≡ scene (held m)
unfolding scene_of scene
same_scene m = grind (arith, nat_tests)

-- the law's words are the model's
pub same_words : (b : Basis) → SameWords b
unfolding scene gp rscs pb link Scenes.gp Scenes.rscs Scenes.pb Scenes.link
same_words b = grind (arith, nat_tests)
