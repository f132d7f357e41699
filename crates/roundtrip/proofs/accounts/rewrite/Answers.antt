use Rattle.std.proofs.Common.{length, rules}
use Rattle.std.proofs.lemmas.Result.{err_from_is_err_and}
use Rattle.tables.specs.Tables.{sealed_plain}
use Rattle.roundtrip.proofs.Accounting.{written_back, not_written}
use Rattle.roundtrip.proofs.accounts.rewrite.Goals as goal

pub returns-in_err-bytes : goal.returns-in_err-bytes
returns-in_err-bytes c =
    let sealed = c.in_ok-case.ensures in
    let told = err_from_is_err_and c.from_residual-in_err-bytes.result c.from_residual-in_err-bytes.ensures.1 in
    rw (told.1, told.2)
    (not_written c.args.text.now c.args.buffer.now c.write.new.buffer (sealed_plain c.in_ok-case.case c.read_sealed.new.tables.events c.read_sealed.new.tables.ties)
    c.in_err-bytes.field-0.0 sealed.0 sealed.1 (length c.read_sealed.new.tables.events) (length c.read_sealed.new.tables.ties) (search rules) (search rules) c.in_err-bytes.ensures)

pub returns : goal.returns
returns c =
    let sealed = c.in_ok-case.ensures in
    rw (c.count.ensures, c.count_ties.ensures)
    (written_back c.args.text.now c.args.buffer.now c.write.new.buffer (sealed_plain c.in_ok-case.case c.read_sealed.new.tables.events c.read_sealed.new.tables.ties)
    c.in_ok-copy.copy c.in_ok-bytes.bytes sealed.0 sealed.1 c.in_ok-copy.ensures
    (length c.read_sealed.new.tables.events) (length c.read_sealed.new.tables.ties) (search rules) (search rules) c.in_ok-bytes.ensures)
