-- The worked examples stand.
use Rattle.std.proofs.Common.{◌≡◌, ℕ, ◌≤◌, true, arith}
use Rattle.executions.specs.Execution.{Execution}
use Rattle.wellformed.specs.WellFormed.{WellFormed}
use Rattle.basis.specs.Meaning.{basis}
use Rattle.grace.specs.Law.{here, by_period, by_section}
use Rattle.lkmm.specs.Rules.{Rcu, scene}
use Rattle.rounds.specs.Marks.{period_step, section_step}
use Rattle.worked.specs.Examples.{blank, own_later_write, lb_ctrl_mb, mp_wmb_rmb, sb_mbs, rcu_mp, rcu_mp_lock, rcu_mp_period, rcu_mp_new, rcu_mp_old, split_rmw}
use Rattle.worked.specs.Worked.{kept, broken, WorkedExamples}
use Rattle.worked.proofs.Modelled.{Modelled, modelled}
use Rattle.worked.proofs.Tests.{at, no_loop}
use Rattle.worked.proofs.Shortest.{shortest_one, swings_shortest, shortest_round}
use Rattle.worked.proofs.Deciding.{ruled, ruled_unsynced}
use Rattle.worked.proofs.Ordering.{section_rcu, section_goes_first, period_rcu, period_goes_first}
use Rattle.worked.proofs.Computed.{computed}
use Rattle.worked.proofs.Faultless.{all_formed}

-- the rows of a well-formed execution
pub of_formed : (x : Execution) → WellFormed x → Modelled x 0 0
of_formed x w = modelled x w.few 0 0

-- ---- the round of RCU-MP: a section step and a period step

module _ (m : Modelled rcu_mp 0 0) where
  by_a_section : section_step (scene (basis rcu_mp)) 3 6 ≡ true
  by_a_section = at _ _ _ m.section_step_rows 3 6 computed.rcu_mp_by_section

  by_a_period : period_step (scene (basis rcu_mp)) 6 3 ≡ true
  by_a_period = at _ _ _ m.period_step_rows 6 3 computed.rcu_mp_by_period

  no_period_loop : (c : ℕ) → period_step (scene (basis rcu_mp)) c c ≡ true → ⊥
  no_period_loop = no_loop _ _ _ m.period_step_rows computed.rcu_mp_no_loop

  rcu_mp_broken : Rcu (basis rcu_mp) → ⊥
  unfolding section_step period_step scene
  rcu_mp_broken r = r 1 1 3 (by_section by_a_section (by_period by_a_period here)) (omega arith) (omega arith)

rcu_mp_long : 2 ≤ (scene (basis rcu_mp)).count
unfolding scene basis rcu_mp
rcu_mp_long = omega arith

pub worked_examples : WorkedExamples
worked_examples =
    let w = all_formed in
    let c = computed in
    let lb = of_formed lb_ctrl_mb w.lb_ctrl_mb_formed in
    let rcu = of_formed rcu_mp w.rcu_mp_formed in
    let split = of_formed split_rmw w.split_rmw_formed in
    record {
      blank_allowed = ruled_unsynced blank w.blank_formed c.blank_unsynced c.blank_rules;
      own_later_write_ruled = ruled_unsynced own_later_write w.own_later_write_formed c.own_later_write_unsynced c.own_later_write_rules;
      lb_ctrl_mb_ruled = ruled_unsynced lb_ctrl_mb w.lb_ctrl_mb_formed c.lb_ctrl_mb_unsynced c.lb_ctrl_mb_rules;
      mp_wmb_rmb_ruled = ruled_unsynced mp_wmb_rmb w.mp_wmb_rmb_formed c.mp_wmb_rmb_unsynced c.mp_wmb_rmb_rules;
      sb_mbs_ruled = ruled_unsynced sb_mbs w.sb_mbs_formed c.sb_mbs_unsynced c.sb_mbs_rules;
      rcu_mp_ruled = ruled rcu_mp w.rcu_mp_formed {rcu = broken} (rcu_mp_broken rcu) c.rcu_mp_rules;
      rcu_mp_new_allowed = ruled rcu_mp_new w.rcu_mp_new_formed {rcu = kept}
          (period_rcu rcu_mp_new w.rcu_mp_new_formed.few rcu_mp_lock rcu_mp_period (omega arith) (omega arith) c.rcu_mp_new_pair c.rcu_mp_new_alone c.rcu_mp_new_section c.rcu_mp_new_period)
          c.rcu_mp_new_rules;
      rcu_mp_old_allowed = ruled rcu_mp_old w.rcu_mp_old_formed {rcu = kept}
          (section_rcu rcu_mp_old w.rcu_mp_old_formed.few rcu_mp_lock rcu_mp_period (omega arith) (omega arith) c.rcu_mp_old_pair c.rcu_mp_old_alone c.rcu_mp_old_section)
          c.rcu_mp_old_rules;
      split_rmw_ruled = ruled_unsynced split_rmw w.split_rmw_formed c.split_rmw_unsynced c.split_rmw_rules;
      own_later_write_round = swings_shortest _ _ _ (of_formed own_later_write w.own_later_write_formed).per_place_rows 1 2 (omega arith) c.own_later_write_swings;
      lb_ctrl_mb_hb_round = swings_shortest _ _ _ lb.hb_rows 2 3 (omega arith) c.lb_ctrl_mb_swings;
      lb_ctrl_mb_pb_round = shortest_one _ 3 (at _ _ _ lb.pb_rows 3 3 c.lb_ctrl_mb_turns);
      mp_wmb_rmb_round = swings_shortest _ _ _ (of_formed mp_wmb_rmb w.mp_wmb_rmb_formed).hb_rows 5 7 (omega arith) c.mp_wmb_rmb_swings;
      sb_mbs_round = swings_shortest _ _ _ (of_formed sb_mbs w.sb_mbs_formed).pb_rows 4 7 (omega arith) c.sb_mbs_swings;
      rcu_mp_round = shortest_round (scene (basis rcu_mp)) 3 6 (by_a_section rcu) (by_a_period rcu) (no_period_loop rcu) (omega arith) rcu_mp_long;
      split_rmw_round = record {
        paired = c.split_rmw_tied;
        read_before = at _ _ _ split.fre_rows 2 1 c.split_rmw_fre;
        written_after = at _ _ _ split.coe_rows 1 3 c.split_rmw_coe;
      };
      rcu_mp_new_order = period_goes_first rcu_mp_new w.rcu_mp_new_formed.few rcu_mp_lock rcu_mp_period (omega arith) (omega arith) c.rcu_mp_new_pair c.rcu_mp_new_alone c.rcu_mp_new_section c.rcu_mp_new_period;
      rcu_mp_old_order = section_goes_first rcu_mp_old w.rcu_mp_old_formed.few rcu_mp_lock rcu_mp_period (omega arith) (omega arith) c.rcu_mp_old_pair c.rcu_mp_old_alone c.rcu_mp_old_section;
    }
