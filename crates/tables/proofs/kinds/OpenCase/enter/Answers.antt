use Rattle.std.proofs.Common.{length, sym, refl}
use Rattle.tables.specs.Tables.{tables}
use Rattle.tables.proofs.Holding.{allowed, enters}
use Rattle.tables.proofs.kinds.OpenCase.enter.Goals as goal

pub returns : goal.returns
returns c = record {
  does =
      enters (tables c.args.self.now c.args.events.now c.args.ties.now) c.args.event c.if-self-ge-RECORDS.false
      (length c.args.ties.now) (allowed _ _ c.in_ok-test_lengths.ensures) (sym c.if-not-in_range.ensures);
  writes = refl;
}
