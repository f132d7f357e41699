use Rattle.relations.specs.View.{rel}
use Rattle.lkmm.proofs.Splitting.{some_between, is_between}
use Rattle.lkmm.proofs.kinds.Model.between.Goals as goal

pub unreachable-requires : goal.unreachable-requires
unreachable-requires c =
    let m = c.args.self.now in
    some_between c.row.result c.row-2.result (rel m.fre) (rel m.«coe») _ c.args.read c.args.write c.row.ensures c.inverse.ensures.pairs c.row-2.ensures c.requires c.in_default.ensures

pub returns : goal.returns
returns c =
    let m = c.args.self.now in
    let p = is_between c.row.result c.row-2.result (rel m.fre) (rel m.«coe») _ c.args.read c.args.write c.row.ensures c.inverse.ensures.pairs c.row-2.ensures c.in-Some.between c.in-Some.ensures in record { read_before = p.0; written_after = p.1 }
