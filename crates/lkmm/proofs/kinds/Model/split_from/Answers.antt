use lib.Bits.{bit_and}
use Rattle.relations.specs.View.{rel}
use Rattle.lkmm.proofs.Splitting.{split_word, lowest_of, split}
use Rattle.lkmm.proofs.kinds.Model.split_from.Goals as goal

pub returns : goal.returns
returns c =
    let m = c.args.self.now in
    lowest_of c.lowest.result (bit_and c.row.result c.image.result) (split m c.args.read)
    (split_word c.row.result c.image.result c.row-2.result (rel m.base.rmw) (rel m.fre) (rel m.«coe») c.args.read c.row.ensures c.row-2.ensures c.image.ensures)
    c.lowest.ensures
