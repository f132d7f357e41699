use Rattle.std.proofs.Common.{ℕ, ◌+◌, get_or, sym, refl, ap, ◌∙◌}
use mathlib.Core.Path.{fun_ext}
use Rattle.std.proofs.lemmas.Bool.{lt-ltb, le-ltb}
use Rattle.rows.specs.Row.{bit}
use Rattle.rows.proofs.Bits.{bit_zero}
use Rattle.sources.proofs.kinds.Snapshot.row.Goals as goal

pub returns-then-event-self : goal.returns-then-event-self
returns-then-event-self c =
    ap (λ (k : ℕ). bit (get_or c.args.self.now.words (k + c.args.event) 0)) c.first_word.ensures.place
    ∙ fun_ext λ b. rw (lt-ltb c.args.event c.args.self.now.count c.if-event-self.true) refl

pub returns-else-event-self : goal.returns-else-event-self
returns-else-event-self c =
    fun_ext λ b. bit_zero b ∙ sym (rw (le-ltb c.args.event c.args.self.now.count c.if-event-self.false) refl)
