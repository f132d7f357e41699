-- The worked examples, computed: what the rows of each say. Rows go by the number that their relation has in the program of the model.
use Rattle.std.proofs.Common.{◌≡◌, true, false, [], ◌∷◌, refl}
use Rattle.rows.specs.Row.{any}
use Rattle.relations.specs.Algebra.{empty, identity, union, inter, diff, inverse, opt, product, from, to, within}
use Rattle.relations.specs.Table.{via}
use Rattle.executions.specs.Execution.{count}
use Rattle.wellformed.specs.Events.{depth}
use Rattle.basis.specs.Basis.{ext, id}
use Rattle.basis.specs.Meaning.{basis, po, int, loc, tied, same_thread, accesses, of_sort}
use Rattle.basis.specs.Sections.{crit, closes, gap}
use Rattle.grace.specs.Law.{pair, before_unlock, from_on, section_first, period_first}
use Rattle.lkmm.specs.Rules.{scene}
use Rattle.worked.specs.Examples.{listed, blank, own_later_write, lb_ctrl_mb, mp_wmb_rmb, sb_mbs, rcu_mp, rcu_mp_lock, rcu_mp_period, rcu_mp_new, rcu_mp_old, split_rmw}
use Rattle.worked.specs.Worked.{kept, broken}
use Rattle.worked.proofs.Rows.{values, tab, look}
use Rattle.worked.proofs.Programs.{eval, meet, closing, run}
use Rattle.worked.proofs.Modelled.{bases, model, rows}
use Rattle.worked.proofs.Tests.{loops, some_pair}
use Rattle.worked.proofs.Shortest.{swings}
use Rattle.worked.proofs.Deciding.{synced, verdicts}
use Rattle.worked.proofs.Ordering.{others}

pub record Computed : Type 0 where
  -- Scpv, At, Hb and Pb
  pub blank_rules : verdicts blank ≡ kept ∷ kept ∷ kept ∷ kept ∷ []
  pub own_later_write_rules : verdicts own_later_write ≡ broken ∷ kept ∷ kept ∷ kept ∷ []
  pub lb_ctrl_mb_rules : verdicts lb_ctrl_mb ≡ kept ∷ kept ∷ broken ∷ broken ∷ []
  pub mp_wmb_rmb_rules : verdicts mp_wmb_rmb ≡ kept ∷ kept ∷ broken ∷ kept ∷ []
  pub sb_mbs_rules : verdicts sb_mbs ≡ kept ∷ kept ∷ kept ∷ broken ∷ []
  pub rcu_mp_rules : verdicts rcu_mp ≡ kept ∷ kept ∷ kept ∷ kept ∷ []
  pub rcu_mp_new_rules : verdicts rcu_mp_new ≡ kept ∷ kept ∷ kept ∷ kept ∷ []
  pub rcu_mp_old_rules : verdicts rcu_mp_old ≡ kept ∷ kept ∷ kept ∷ kept ∷ []
  pub split_rmw_rules : verdicts split_rmw ≡ kept ∷ broken ∷ kept ∷ kept ∷ []
  -- those without a grace period
  pub blank_unsynced : synced blank ≡ false
  pub own_later_write_unsynced : synced own_later_write ≡ false
  pub lb_ctrl_mb_unsynced : synced lb_ctrl_mb ≡ false
  pub mp_wmb_rmb_unsynced : synced mp_wmb_rmb ≡ false
  pub sb_mbs_unsynced : synced sb_mbs ≡ false
  pub split_rmw_unsynced : synced split_rmw ≡ false
  -- rounds: per-place is 16, hb 34, pb 37; the period steps are 41 and the section steps 42; fre is 47 and coe 48
  pub own_later_write_swings : swings (count own_later_write) (rows own_later_write 0 0 16) 1 2 ≡ true
  pub lb_ctrl_mb_swings : swings (count lb_ctrl_mb) (rows lb_ctrl_mb 0 0 34) 2 3 ≡ true
  pub lb_ctrl_mb_turns : look (rows lb_ctrl_mb 0 0 37) 3 3 ≡ true
  pub mp_wmb_rmb_swings : swings (count mp_wmb_rmb) (rows mp_wmb_rmb 0 0 34) 5 7 ≡ true
  pub sb_mbs_swings : swings (count sb_mbs) (rows sb_mbs 0 0 37) 4 7 ≡ true
  pub rcu_mp_by_section : look (rows rcu_mp 0 0 42) 3 6 ≡ true
  pub rcu_mp_by_period : look (rows rcu_mp 0 0 41) 6 3 ≡ true
  pub rcu_mp_no_loop : loops (count rcu_mp) (rows rcu_mp 0 0 41) ≡ false
  pub split_rmw_tied : (basis split_rmw).rmw 2 3 ≡ true
  pub split_rmw_fre : look (rows split_rmw 0 0 47) 2 1 ≡ true
  pub split_rmw_coe : look (rows split_rmw 0 0 48) 1 3 ≡ true
  -- one section and one period; the closure of pb with the section first is 44, with the period first 46
  pub rcu_mp_new_pair : pair (scene (basis rcu_mp_new)) rcu_mp_lock rcu_mp_period ≡ true
  pub rcu_mp_new_alone : others rcu_mp_new rcu_mp_lock rcu_mp_period ≡ false
  pub rcu_mp_new_section : loops (count rcu_mp_new) (rows rcu_mp_new rcu_mp_lock rcu_mp_period 44) ≡ true
  pub rcu_mp_new_period : loops (count rcu_mp_new) (rows rcu_mp_new rcu_mp_lock rcu_mp_period 46) ≡ false
  pub rcu_mp_old_pair : pair (scene (basis rcu_mp_old)) rcu_mp_lock rcu_mp_period ≡ true
  pub rcu_mp_old_alone : others rcu_mp_old rcu_mp_lock rcu_mp_period ≡ false
  pub rcu_mp_old_section : loops (count rcu_mp_old) (rows rcu_mp_old rcu_mp_lock rcu_mp_period 44) ≡ false

pub computed : Computed
unfolding verdicts synced swings pair others loops some_pair rows run eval meet closing values tab look bases model basis scene section_first period_first before_unlock from_on crit closes gap depth ext id po int loc tied same_thread accesses of_sort any union inter diff inverse opt product from to within identity empty via listed blank own_later_write lb_ctrl_mb mp_wmb_rmb sb_mbs rcu_mp rcu_mp_new rcu_mp_old split_rmw
computed = record {
  blank_rules = refl;
  own_later_write_rules = refl;
  lb_ctrl_mb_rules = refl;
  mp_wmb_rmb_rules = refl;
  sb_mbs_rules = refl;
  rcu_mp_rules = refl;
  rcu_mp_new_rules = refl;
  rcu_mp_old_rules = refl;
  split_rmw_rules = refl;
  blank_unsynced = refl;
  own_later_write_unsynced = refl;
  lb_ctrl_mb_unsynced = refl;
  mp_wmb_rmb_unsynced = refl;
  sb_mbs_unsynced = refl;
  split_rmw_unsynced = refl;
  own_later_write_swings = refl;
  lb_ctrl_mb_swings = refl;
  lb_ctrl_mb_turns = refl;
  mp_wmb_rmb_swings = refl;
  sb_mbs_swings = refl;
  rcu_mp_by_section = refl;
  rcu_mp_by_period = refl;
  rcu_mp_no_loop = refl;
  split_rmw_tied = refl;
  split_rmw_fre = refl;
  split_rmw_coe = refl;
  rcu_mp_new_pair = refl;
  rcu_mp_new_alone = refl;
  rcu_mp_new_section = refl;
  rcu_mp_new_period = refl;
  rcu_mp_old_pair = refl;
  rcu_mp_old_alone = refl;
  rcu_mp_old_section = refl;
}
