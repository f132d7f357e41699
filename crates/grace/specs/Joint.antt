-- Happens-before and propagates-before taken together.
use Rattle.relations.specs.Algebra.{Rel, union}
use Rattle.relations.specs.Chains.{Acyclic}
use Rattle.grace.specs.Scene.{Scene, Sound, pb}

-- Where neither hb nor pb has a cycle, with any fences f for the strong ones, the two together have none.
abbrev pub JointOrderLaw : Type 0
JointOrderLaw = (x : Scene) → Sound x → (f : Rel) → Acyclic x.hb → Acyclic (pb x f) → Acyclic (union x.hb (pb x f))
