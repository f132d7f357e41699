-- No cycle of hb and pb together. pb ends in hb*, so it takes up the hb steps after it: a cycle is one of hb, or one of pb.
use Rattle.std.proofs.Common.{arith}
use Rattle.std.proofs.lemmas.Bool.Decides.{nat_tests}
use Rattle.std.proofs.Common.{ℕ, ⊎_elim}
use Rattle.relations.specs.Algebra.{Rel, union}
use Rattle.relations.specs.Chains.{Chain, Chain.one, Chain.step, Acyclic}
use Rattle.relations.proofs.Closure.{chain_append}
use Rattle.grace.specs.Scene.{Scene, Sound, pb}
use Rattle.grace.specs.Joint.{JointOrderLaw}
use Rattle.grace.proofs.Closure.{On, union_cases, starts_from, star_cases, star_chain}
use Rattle.grace.proofs.Rules.{Hb, hb_small, pb_parts, pb_from}

module _ (x : Scene) (sound : Sound x) (f : Rel) where
  hb_more : (a : ℕ) {b c : ℕ} → Hb x a b → Chain x.hb b c → Hb x a c
  hb_more a {b} {c} e h = grind (arith, nat_tests, star_chain, starts_from, hb_small, chain_append, star_cases)

  -- a pb step takes up the hb steps after it
  pb_more : (a : ℕ) {b c : ℕ} → On (pb x f) a b → Chain x.hb b c → On (pb x f) a c
  pb_more a {b} {c} e h = let p = pb_parts x sound f a b e in pb_from x sound f a c p.0 p.1 p.2 p.3 (hb_more p.1 p.4 h)

  -- and so does a chain of them
  chain_more : {a b c : ℕ} → Chain (pb x f) a b → Chain x.hb b c → Chain (pb x f) a c
  chain_more (one e) h = one (pb_more _ e h)
  chain_more (step e s) h = step e (chain_more s h)

  -- so a chain of both is hb alone, or pb alone, or hb and then pb
  data Sorted (a b : ℕ) : Type 0 where
    only_hb : Chain x.hb a b → Sorted a b
    only_pb : Chain (pb x f) a b → Sorted a b
    hb_first : {c : ℕ} → Chain x.hb a c → Chain (pb x f) c b → Sorted a b

  after_hb : {a b c : ℕ} → On x.hb a b → Sorted b c → Sorted a c
  after_hb e (only_hb h) = only_hb (step e h)
  after_hb e (only_pb p) = hb_first (one e) p
  after_hb e (hb_first h p) = hb_first (step e h) p

  after_pb : {a b c : ℕ} → On (pb x f) a b → Sorted b c → Sorted a c
  after_pb e (only_hb h) = only_pb (one (pb_more _ e h))
  after_pb e (only_pb p) = only_pb (step e p)
  after_pb e (hb_first h p) = only_pb (step (pb_more _ e h) p)

  sorted : {a b : ℕ} → Chain (union x.hb (pb x f)) a b → Sorted a b
  sorted (one e) = ⊎_elim (λ h. only_hb (one h)) (λ p. only_pb (one p)) (union_cases _ _ e)
  sorted (step e s) = ⊎_elim (λ h. after_hb h (sorted s)) (λ p. after_pb p (sorted s)) (union_cases _ _ e)

  joint : Acyclic x.hb → Acyclic (pb x f) → Acyclic (union x.hb (pb x f))
  joint hb_kept pb_kept a s = grind (arith, nat_tests, sorted, chain_more)

pub joint_order_law : JointOrderLaw
joint_order_law x sound f hb_kept pb_kept = joint x sound f hb_kept pb_kept
