use Rattle.std.proofs.Common.{ℕ, ◌+◌, sym, ap, ◌∙◌}
use Rattle.rows.specs.Row.{adding}
use Rattle.tables.specs.Tables.{tables}
use Rattle.tables.proofs.Tying.{wrote, tie_done}
use Rattle.tables.proofs.kinds.OpenCase.tie.Goals as goal

pub returns : goal.returns
returns c =
    let t = tables c.args.self.now c.args.events.now c.args.ties.now in
    let e = sym c.named.ensures ∙ c.in_ok-known.was in
    record {
      does =
          tie_done t c.args.self.now.room c.args.relation c.args.first c.args.second c.in_ok-known.known e
          (c.first_word.result + c.args.first) c.with.result (ap (λ (k : ℕ). k + c.args.first) c.first_word.ensures.place)
          (sym c.if-not-fits.ensures) (sym c.if-is_taken.ensures) c.with.ensures;
      writes =
          wrote t c.args.self.now.room c.args.relation c.args.first c.args.second c.in_ok-known.known e
          (c.first_word.result + c.args.first) c.with.result (ap (λ (k : ℕ). k + c.args.first) c.first_word.ensures.place) (adding c.args.second) c.with.ensures;
    }
