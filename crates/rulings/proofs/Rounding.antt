-- Rounds of the model's rules, found in the relations of the code.
use Rattle.std.proofs.Common.{◌≡◌, ℕ, ◌<◌, ap, ◌∙◌, subst}
use Rattle.relations.specs.Algebra.{Rel}
use Rattle.relations.specs.Chains.{Acyclic}
use Rattle.relations.proofs.Ranges.{on_all}
use Rattle.grace.specs.Scene.{Scene}
use Rattle.grace.specs.Law.{Rcu}
use Rattle.lkmm.specs.Held.{held}
use Rattle.lkmm.specs.Rules.{IsAtRound}
use Rattle.lkmm.specs.declared.kinds.Model.{Model}
use Rattle.basis.specs.Basis.{Basis}
use Rattle.rulings.specs.Rules.{Keeps}
use Rattle.rulings.specs.declared.kinds.Rule.{Rule}

-- where the model's relation has a cycle, so has the code's
pub cyclic_same : (r s : Rel) → r ≡ s → (Acyclic s → ⊥) → Acyclic r → ⊥
cyclic_same r s e h = rw e h

-- the same for scenes
pub broken_same : (x y : Scene) → x ≡ y → (Rcu y y.strong → ⊥) → Rcu x x.strong → ⊥
broken_same x y e = subst (λ (z : Scene). (Rcu z z.strong → ⊥) → Rcu x x.strong → ⊥) e (λ f. f)

-- the events of a round of At are below 64
pub split_few : (m : Model) (a c v : ℕ) → IsAtRound (held m) a c v → (a < 64) × ((c < 64) × (v < 64))
split_few m a c v h =
    let p = on_all m.base.rmw a v h.paired in
    let q = on_all m.fre a c (ap (λ (r : Rel). r a c) m.fre_is ∙ h.read_before) in
    (p.0, (q.1, p.1))

-- a rule that is broken, by its name
pub broken_at : (b : Basis) (k j : Rule) → k ≡ j → (Keeps b k → ⊥) → Keeps b j → ⊥
broken_at b k j e = subst (λ (i : Rule). (Keeps b k → ⊥) → Keeps b i → ⊥) e (λ f. f)
