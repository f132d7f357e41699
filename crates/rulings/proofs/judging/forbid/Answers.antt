use Rattle.lkmm.specs.Held.{held}
use Rattle.rulings.proofs.Assembling.{forbidden}
use Rattle.rulings.proofs.judging.forbid.Goals as goal

pub returns : goal.returns
returns c = forbidden (held c.args.question.now.model.now) c.args.rule c.round_of-page.result c.args.words.now _ c.round_of-page.ensures c.draw.ensures
