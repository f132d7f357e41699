use Rattle.lkmm.specs.Held.{held}
use Rattle.lkmm.specs.Rules as lkmm
use Rattle.rulings.proofs.Decisions.{says_if, all_reported, none_decides}
use Rattle.rulings.proofs.reporting.report_all.Goals as goal

pub returns : goal.returns
returns c =
    let b = held c.args.model.now in
    all_reported b _
    (says_if c.keeps_scpv.result (lkmm.Scpv b) c.report.result c.report.ensures c.keeps_scpv.ensures)
    (says_if c.is_none.result (lkmm.At b) c.report-2.result c.report-2.ensures (none_decides c.split_rmw.result c.is_none.result c.is_none.ensures c.split_rmw.ensures.none))
    (says_if c.keeps_hb.result (lkmm.Hb b) c.report-3.result c.report-3.ensures c.keeps_hb.ensures)
    (says_if c.keeps_pb.result (lkmm.Pb b) c.report-4.result c.report-4.ensures c.keeps_pb.ensures)
    (says_if c.args.rcu (lkmm.Rcu b) c.report-5.result c.report-5.ensures c.requires)
