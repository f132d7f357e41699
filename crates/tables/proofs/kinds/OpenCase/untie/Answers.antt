use Rattle.std.proofs.Common.{ℕ, ◌+◌, sym, ap, ◌∙◌}
use Rattle.rows.specs.Row.{dropping}
use Rattle.tables.specs.Tables.{tables}
use Rattle.tables.proofs.Tying.{wrote, untie_done}
use Rattle.tables.proofs.kinds.OpenCase.untie.Goals as goal

pub returns : goal.returns
returns c =
    let t = tables c.args.self.now c.args.events.now c.args.ties.now in
    let e = sym c.named.ensures ∙ c.in_ok-known.was in
    record {
      does =
          untie_done t c.args.self.now.room c.args.relation c.args.first c.args.second c.in_ok-known.known e
          (c.first_word.result + c.args.first) c.without.result (ap (λ (k : ℕ). k + c.args.first) c.first_word.ensures.place) (sym c.if-not-is_tied.ensures) c.without.ensures;
      writes =
          wrote t c.args.self.now.room c.args.relation c.args.first c.args.second c.in_ok-known.known e
          (c.first_word.result + c.args.first) c.without.result (ap (λ (k : ℕ). k + c.args.first) c.first_word.ensures.place) (dropping c.args.second) c.without.ensures;
    }
