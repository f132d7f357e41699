use Rattle.std.proofs.Common.{ℕ, sym, subst}
use Rattle.relations.specs.Algebra.{Rel, union}
use Rattle.relations.specs.Chains.{Acyclic}
use Rattle.relations.specs.Table.{table}
use Rattle.relations.specs.View.{size}
use Rattle.grace.specs.Law.{enlarged}
use Rattle.grace.specs.Scene.{Sound}
use Rattle.settings.proofs.Settings.{sound}
use Rattle.lkmm.specs.Held.{held}
use Rattle.lkmm.specs.Model.{hb}
use Rattle.lkmm.specs.Rules.{per_place, scene}
use Rattle.precedence.specs.declared.kinds.FirstTable.{FirstTable}
use Rattle.rulings.specs.Pages.{Listing, OrderIn}
use Rattle.rulings.specs.Rulings.{Allows}
use Rattle.rulings.proofs.Assembling.{allowed, cases_at, cases_from, joint_acyclic}
use Rattle.rulings.proofs.judging.allow.Goals as goal

pub places-requires : goal.places-requires
places-requires c =
    let m = c.args.question.now.model.now in
    subst Acyclic (sym m.per_place_is) c.requires.scpv_kept

pub places-requires-2 : goal.places-requires-2
places-requires-2 c =
    let b = held c.args.question.now.model.now in
    let F = table c.in-Some.first.rows in
    joint_acyclic b F _ (subst Sound c.args.question.now.same_scene (sound c.args.question.now.setting)) c.requires.hb_kept
    (cases_at c.args.table.now c.in-Some.first ⊥ (λ (t : FirstTable). Acyclic (enlarged (scene b) (table t.rows))) c.in-Some.is c.requires.orderable) c.joint-joint.ensures.pairs

pub returns : goal.returns
returns c =
    let m = c.args.question.now.model.now in
    let b = held m in
    let F = table c.in-Some.first.rows in
    cases_from c.args.table.now c.in-Some.first ⊥ (λ (t : FirstTable). Listing (Allows b (table t.rows)) c.args.words.now c.draw.result) c.in-Some.is
    (allowed b F c.places.result c.places-2.result c.args.words.now c.draw.result
    (subst (λ (n : ℕ). OrderIn (per_place b) n c.places.result) m.per_place_alike
    (subst (λ (r : Rel). OrderIn r (size m.per_place) c.places.result) m.per_place_is c.places.ensures))
    (subst (λ (n : ℕ). OrderIn (union (hb b) (enlarged (scene b) F)) n c.places-2.result) c.joint-joint.ensures.events
    (subst (λ (r : Rel). OrderIn r (size c.joint-joint.result) c.places-2.result) c.joint-joint.ensures.pairs c.places-2.ensures))
    c.draw.ensures)
