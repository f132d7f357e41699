use Rattle.std.proofs.Common.{rules}
use Rattle.std.proofs.Common.{sym, ◌∙◌}
use Rattle.rows.specs.Row.{bit}
use Rattle.settings.specs.View.{scene}
use Rattle.settings.proofs.Settings.{sound}
use Rattle.precedence.specs.Rows.{sheet, cells}
use Rattle.precedence.proofs.Tabling.{empty_row, same_sheet, row_is, row_more, row_fit}
use Rattle.precedence.proofs.deciding.add_row.Goals as goal

pub returns-then-not-is_lock : goal.returns-then-not-is_lock
returns-then-not-is_lock c = search (rules, empty_row, sound, same_sheet)

pub add_relay-requires : goal.add_relay-requires
add_relay-requires c =
    let x = c.args.x.now in record {
      reached = c.reaches-reach.ensures;
      fits = row_fit (scene x) (sound x) c.args.l (sym c.is_lock.ensures ∙ c.if-not-is_lock.false) (sheet c.args.m.now) (bit c.before_unlock-into.result) (bit c.closing.result)
          (bit c.all_after-row.result) (bit c.from_any.result) (cells c.reaches-reach.result) c.requires.rows_before c.before_unlock-into.ensures c.reaches-reach.ensures
          c.closing.ensures c.all_after-row.ensures c.from_any.ensures c.requires.no_round;
    }

pub returns : goal.returns
returns c =
    let x = c.args.x.now in
    let lock = sym c.is_lock.ensures ∙ c.if-not-is_lock.false in
    record {
      row =
          row_is (scene x) (sound x) c.args.l lock (sheet c.args.m.now) (bit c.before_unlock-into.result) (bit c.closing.result) (bit c.all_after-row.result)
          (bit c.from_any.result) (cells c.reaches-reach.result) c.requires.rows_before c.before_unlock-into.ensures c.reaches-reach.ensures c.closing.ensures c.all_after-row.ensures;
      more =
          row_more (scene x) (sound x) c.args.l lock (sheet c.args.m.now) (bit c.before_unlock-into.result) (bit c.closing.result) (bit c.all_after-row.result)
          (bit c.from_any.result) (cells c.reaches-reach.result) c.requires.rows_before c.before_unlock-into.ensures c.reaches-reach.ensures c.closing.ensures c.all_after-row.ensures
          c.from_any.ensures (sheet c.add_relay.new.m) c.add_relay.ensures;
    }
