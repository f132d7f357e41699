use Rattle.std.proofs.Common.{rules}
use Rattle.std.proofs.lemmas.Bool.{false≢true}
use Rattle.lkmm.proofs.Fitting.{fits, same_scene, same_words}
use Rattle.lkmm.proofs.kinds.Model.setting.Goals as goal

pub unreachable-requires : goal.unreachable-requires
unreachable-requires c = false≢true (c.in_default.ensures.fits.1 (fits c.args.self.now))

pub returns : goal.returns
returns c = search (rules, same_scene, same_words)
