use Rattle.std.proofs.Common.{◌≡◌, codes, rules, arith}
use Rattle.caselines.proofs.Wording.{spells_events}
use Rattle.caselines.proofs.reading.line_from.Goals as goal

pub returns-in-events : goal.returns-in-events
returns-in-events c =
    let word : c.args.word.now ≡ codes "events" = spells_events c.args.word.now (omega arith) (omega arith) (omega arith) (omega arith) (omega arith) (omega arith) (omega arith) in
    rw word (search rules)
