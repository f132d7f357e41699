use Rattle.std.proofs.Common.{rules}
use Rattle.std.proofs.Common.{not, sym, ap, arith}
use Rattle.precedence.proofs.Climbing.{climb_fits, climb_turns, climb_all}
use Rattle.settings.specs.View.{scene}
use Rattle.precedence.proofs.deciding.add_all.Goals as goal

pub add_node-requires-clause-fits : goal.add_node-requires-clause-fits
add_node-requires-clause-fits g c = search (rules, climb_fits)

pub returns-in_err-add_node-clause-calm : goal.returns-in_err-add_node-clause-calm
returns-in_err-add_node-clause-calm g c = search (rules, climb_turns)

pub returns-clause-calm : goal.returns-clause-calm
returns-clause-calm g c = sym (ap not (climb_all (g.K.Kind.stairs (scene c.args.x.now)) _ _ (omega arith) c.loop-k.invariant).0)
