use Rattle.std.proofs.Common.{◌≡◌, ap, ◌∙◌, ap₂, arith}
use Rattle.relations.specs.Algebra.{union}
use Rattle.relations.specs.Table.{table}
use Rattle.relations.specs.View.{size}
use Rattle.grace.specs.Scene.{Scene}
use Rattle.grace.specs.Law.{enlarged}
use Rattle.lkmm.specs.Rules.{scene}
use Rattle.rulings.proofs.judging.joint.Goals as goal

pub returns : goal.returns
unfolding scene
returns c =
    let m = c.args.question.now.model.now in
    let count : size c.enlarged_pb.result ≡ size m.base.po = c.enlarged_pb.ensures.events ∙ ap (λ (x : Scene). x.count) c.args.question.now.same_scene in
    record {
      pairs =
          c.union.ensures.pairs
          ∙ ap₂ union m.hb_is (c.enlarged_pb.ensures.pairs ∙ ap (λ (x : Scene). enlarged x (table c.args.table.now.rows)) c.args.question.now.same_scene);
      events = omega (arith, count, m.hb_alike, c.union.ensures.events);
    }
