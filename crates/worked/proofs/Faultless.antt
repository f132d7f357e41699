-- The worked examples are well formed: the check, computed, finds no fault.
use Rattle.std.proofs.lemmas.Bool.Decides.{nat_tests}
use Rattle.std.proofs.Common.{◌≡◌, None, refl, arith}
use Rattle.rows.specs.Row.{any, count}
use Rattle.relations.specs.Table.{via}
use Rattle.wellformed.specs.Events.{depth}
use Rattle.wellformed.specs.Faults.{first, last_lock}
use Rattle.wellformed.specs.WellFormed.{WellFormed}
use Rattle.worked.specs.Examples.{listed, blank, own_later_write, lb_ctrl_mb, mp_wmb_rmb, sb_mbs, rcu_mp, rcu_mp_new, rcu_mp_old, split_rmw}
use Rattle.worked.proofs.Rows.{values, tab, look}
use Rattle.worked.proofs.Programs.{closing}
use Rattle.worked.proofs.Formed.{placed, orders_by, fault_by, row_fault, written_formed}

record Faultless : Type 0 where
  blank_faultless : row_fault blank ≡ None
  own_later_write_faultless : row_fault own_later_write ≡ None
  lb_ctrl_mb_faultless : row_fault lb_ctrl_mb ≡ None
  mp_wmb_rmb_faultless : row_fault mp_wmb_rmb ≡ None
  sb_mbs_faultless : row_fault sb_mbs ≡ None
  rcu_mp_faultless : row_fault rcu_mp ≡ None
  rcu_mp_new_faultless : row_fault rcu_mp_new ≡ None
  rcu_mp_old_faultless : row_fault rcu_mp_old ≡ None
  split_rmw_faultless : row_fault split_rmw ≡ None

faultless : Faultless
unfolding row_fault fault_by orders_by first any count depth last_lock closing via values tab look listed blank own_later_write lb_ctrl_mb mp_wmb_rmb sb_mbs rcu_mp rcu_mp_new rcu_mp_old split_rmw
faultless = grind (arith, nat_tests)

pub record AllFormed : Type 0 where
  pub blank_formed : WellFormed blank
  pub own_later_write_formed : WellFormed own_later_write
  pub lb_ctrl_mb_formed : WellFormed lb_ctrl_mb
  pub mp_wmb_rmb_formed : WellFormed mp_wmb_rmb
  pub sb_mbs_formed : WellFormed sb_mbs
  pub rcu_mp_formed : WellFormed rcu_mp
  pub rcu_mp_new_formed : WellFormed rcu_mp_new
  pub rcu_mp_old_formed : WellFormed rcu_mp_old
  pub split_rmw_formed : WellFormed split_rmw

pub all_formed : AllFormed
unfolding placed blank own_later_write lb_ctrl_mb mp_wmb_rmb sb_mbs rcu_mp rcu_mp_new rcu_mp_old split_rmw
all_formed = record {
  blank_formed = written_formed _ _ (omega arith) refl faultless.blank_faultless;
  own_later_write_formed = written_formed _ _ (omega arith) refl faultless.own_later_write_faultless;
  lb_ctrl_mb_formed = written_formed _ _ (omega arith) refl faultless.lb_ctrl_mb_faultless;
  mp_wmb_rmb_formed = written_formed _ _ (omega arith) refl faultless.mp_wmb_rmb_faultless;
  sb_mbs_formed = written_formed _ _ (omega arith) refl faultless.sb_mbs_faultless;
  rcu_mp_formed = written_formed _ _ (omega arith) refl faultless.rcu_mp_faultless;
  rcu_mp_new_formed = written_formed _ _ (omega arith) refl faultless.rcu_mp_new_faultless;
  rcu_mp_old_formed = written_formed _ _ (omega arith) refl faultless.rcu_mp_old_faultless;
  split_rmw_formed = written_formed _ _ (omega arith) refl faultless.split_rmw_faultless;
}
