use Rattle.casetext.proofs.Roundtrip.{spells}
use Rattle.casetext.proofs.reading.read.Goals as goal

pub returns : goal.returns
returns c = record {
  reads = c.read_into.ensures;
  spells = spells c.args.text.now c.args.events.now c.args.ties.now c.read_into.new.events c.read_into.new.ties c.read_into.result c.read_into.ensures;
}
