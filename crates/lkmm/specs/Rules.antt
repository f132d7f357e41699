-- The five rules of the model.
use Rattle.std.specs.Prelude.{◌≡◌, ℕ, true, ◌≢◌}
use Rattle.relations.specs.Algebra.{Rel, union, inter, seq}
use Rattle.relations.specs.Chains.{Acyclic}
use Rattle.grace.specs.Scene.{Scene}
use Rattle.grace.specs.Law as grace
use Rattle.grace.specs.Scene as Scenes
use Rattle.basis.specs.Basis.{Basis}
use Rattle.lkmm.specs.Model.{«com», po_loc, fre, «coe», gp, strong_fence, prop, hb, pb, link, rscs}

-- no pair is related
abbrev pub Empty : Rel → Type 0
Empty r = (a c : ℕ) → r a c ≢ true

-- what Scpv and At speak of
unfoldable pub per_place : Basis → Rel
per_place b = union (po_loc b) («com» b)

unfoldable pub broken_rmw : Basis → Rel
broken_rmw b = inter b.rmw (seq (fre b) («coe» b))

-- Scpv: acyclic(po-loc ∪ com)    sequential consistency for each place
abbrev pub Scpv : Basis → Type 0
Scpv b = Acyclic (per_place b)

-- At: empty(rmw ∩ (fre ; coe))    no write of another thread comes between the two halves of a read-modify-write
abbrev pub At : Basis → Type 0
At b = Empty (broken_rmw b)

-- Hb: acyclic(hb)
abbrev pub Hb : Basis → Type 0
Hb b = Acyclic (hb b)

-- Pb: acyclic(pb)
abbrev pub Pb : Basis → Type 0
Pb b = Acyclic (pb b)

-- what the grace-period law is asked about: its period steps are gp ; link and its section steps rscs ; link, with the relations of the model
unfoldable pub scene : Basis → Scene
scene b = record {
  count = b.count;
  po = b.po;
  prop = prop b;
  hb = hb b;
  strong = strong_fence b;
  crit = b.crit;
  period = b.periods;
}

-- Rcu: no chain of one or more period and section steps, at least as many of them period steps as section steps, returns to its first event
abbrev pub Rcu : Basis → Type 0
Rcu b = grace.Rcu (scene b) (strong_fence b)

-- The law's own words for this scene are the model's: gp, rscs, pb and link are the relations of the same names.
pub record SameWords (b : Basis) : Type 0 where
  pub same_gp : Scenes.gp (scene b) ≡ gp b
  pub same_rscs : Scenes.rscs (scene b) ≡ rscs b
  pub same_pb : Scenes.pb (scene b) (strong_fence b) ≡ pb b
  pub same_link : Scenes.link (scene b) (strong_fence b) ≡ link b

-- A round of At: the read and the write of one read-modify-write, and a write of another thread that comes between them.
pub record IsAtRound (b : Basis) (read between write : ℕ) : Type 0 where
  pub paired : b.rmw read write ≡ true
  pub read_before : fre b read between ≡ true
  pub written_after : «coe» b between write ≡ true
