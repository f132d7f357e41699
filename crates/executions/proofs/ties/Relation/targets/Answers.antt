use Rattle.std.proofs.Common.{ℕ, ◌+◌, get_or, unwrap_or, ap, ◌∙◌, arith}
use Rattle.executions.proofs.Words.{word_there, word_past}
use Rattle.executions.proofs.ties.Relation.targets.Goals as goal

pub returns-then-event-ge64 : goal.returns-then-event-ge64
returns-then-event-ge64 c = word_past c.args.ties.now c.args.self c.args.event c.if-event-ge64.true

pub returns : goal.returns
returns c =
    word_there c.args.ties.now c.args.self c.args.event c.unwrap_or.result c.if-event-ge64.false
    (c.unwrap_or.ensures ∙ ap (λ o. unwrap_or o 0) c.copied.ensures ∙ c.get.ensures.lookup.4 (omega arith) 0
    ∙ ap (λ (k : ℕ). get_or c.args.ties.now (k + c.args.event) 0) c.first_word.ensures.place)
    c.unwrap_or.type_inv
