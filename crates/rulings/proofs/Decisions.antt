-- Reports from decisions.
use Rattle.std.proofs.Common.{◌≡◌, Bool, true, false, cond, not, is_some, Decides, Option, sym, refl, subst}
use Rattle.std.proofs.lemmas.Bool.{false≢true, both_ways}
use Rattle.basis.specs.Basis.{Basis}
use Rattle.lkmm.specs.Rules as lkmm
use Rattle.rulings.specs.declared.kinds.Rule.TheVariants.{Scpv, At, Hb, Pb, Rcu}
use Rattle.rulings.specs.declared.kinds.Report.{Report}
use Rattle.rulings.specs.declared.kinds.Report.TheVariants.{Kept, Broken}
use Rattle.rulings.specs.declared.kinds.Reports.{Reports}
use Rattle.rulings.specs.Rulings.{Says, Reported}

pub says_if : (t : Bool) (P : Type 0) (r : Report) → r ≡ cond t Kept Broken → Decides t P → Says r P
says_if true P r e d = subst (λ (q : Report). Says q P) (sym e) (d.0 refl)
says_if false P r e d = subst (λ (q : Report). Says q P) (sym e) (λ p. false≢true (d.1 p))

pub all_reported : (b : Basis) (r : Reports) → Says r.scpv (lkmm.Scpv b) → Says r.at (lkmm.At b) → Says r.hb (lkmm.Hb b) → Says r.pb (lkmm.Pb b) → Says r.rcu (lkmm.Rcu b) → Reported b r
all_reported b r s a h p u Scpv = s
all_reported b r s a h p u At = a
all_reported b r s a h p u Hb = h
all_reported b r s a h p u Pb = p
all_reported b r s a h p u Rcu = u

-- a test for none, where that there is none is decided
pub none_decides : {A P : Type 0} (o : Option A) (t : Bool) → is_some o ≡ not t → Decides (not (is_some o)) P → Decides t P
none_decides o true e d = (λ h. d.0 (rw e refl), λ p. refl)
none_decides o false e d = (λ h. absurd (false≢true h), λ p. absurd (both_ways (not (is_some o)) (rw e refl) (d.1 p)))
