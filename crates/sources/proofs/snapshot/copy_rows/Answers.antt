use Rattle.std.proofs.Common.{arith}
use Rattle.sources.proofs.Copying.{listed_more}
use Rattle.sources.proofs.snapshot.copy_rows.Goals as goal

pub loop-relation-init : goal.loop-relation-init
loop-relation-init g c = λ m a h k. absurd (omega arith)

pub loop-relation-preserved : goal.loop-relation-preserved
loop-relation-preserved g c =
    listed_more (g.S.CaseSource.meaning c.args.source.now) c.loop-relation.words c.copy_relation.new.words c.loop-relation.relation-index c.args.count
    (omega arith) (omega arith) c.loop-relation.invariant c.copy_relation.ensures.copied c.copy_relation.ensures.before

pub returns : goal.returns
returns g c = λ m a h k. c.loop-relation.invariant m a (omega arith) k
