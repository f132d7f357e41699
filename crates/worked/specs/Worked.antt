-- What is proved of the worked examples.
use Rattle.std.specs.Prelude.{◌≡◌, ℕ, Bool, true, false, [], ◌∷◌}
use Rattle.executions.specs.Execution.{Execution}
use Rattle.wellformed.specs.WellFormed.{WellFormed}
use Rattle.basis.specs.Meaning.{basis}
use Rattle.lkmm.specs.Model.{hb, pb}
use Rattle.lkmm.specs.Rules.{Scpv, At, Hb, Pb, Rcu, per_place, scene, IsAtRound}
use Rattle.searches.specs.Cycles.{IsShortest}
use Rattle.grace.specs.Law.{Table, pair}
use Rattle.grace.specs.First.{First}
use Rattle.rounds.specs.declared.kinds.Mark.TheVariants.{Period, Section}
use Rattle.rounds.specs.Rounds.{IsShortestRound}
use Rattle.worked.specs.Examples.{blank, own_later_write, lb_ctrl_mb, mp_wmb_rmb, sb_mbs, rcu_mp, rcu_mp_lock, rcu_mp_period, rcu_mp_new, rcu_mp_old, split_rmw}

-- ---- the words

-- what is said of a rule
pub data Report : Type 0 where
  kept : Report
  broken : Report

abbrev pub Says : Report → Type 0 → Type 0
Says kept rule = rule
Says broken rule = rule → ⊥

-- the execution is well formed, and of each rule this is said
pub record Reported (x : Execution) (scpv at hb pb rcu : Report) : Type 0 where
  pub well_formed : WellFormed x
  pub on_scpv : Says scpv (Scpv (basis x))
  pub on_at : Says at (At (basis x))
  pub on_hb : Says hb (Hb (basis x))
  pub on_pb : Says pb (Pb (basis x))
  pub on_rcu : Says rcu (Rcu (basis x))

-- an execution is allowed when it keeps every rule
abbrev pub Allowed : Execution → Type 0
Allowed x = Reported x kept kept kept kept kept

-- The execution has one section and one period. There is a first table, and every first table puts the section first if `section` is true,
-- else the period.
pub record PutsFirst (x : Execution) (lock period : ℕ) (section : Bool) : Type 0 where
  pub is_pair : pair (scene (basis x)) lock period ≡ true
  pub no_other : (l s : ℕ) → pair (scene (basis x)) l s ≡ true → (l ≡ lock) × (s ≡ period)
  pub some_first : (t : Table) × First (scene (basis x)) t
  pub each_first : (t : Table) → First (scene (basis x)) t → t lock period ≡ section

-- ---- the examples

pub record WorkedExamples : Type 0 where
  --                                                    Scpv   At     Hb     Pb     Rcu
  pub blank_allowed : Allowed blank
  pub own_later_write_ruled : Reported own_later_write broken kept kept kept kept
  pub lb_ctrl_mb_ruled : Reported lb_ctrl_mb kept kept broken broken kept
  pub mp_wmb_rmb_ruled : Reported mp_wmb_rmb kept kept broken kept kept
  pub sb_mbs_ruled : Reported sb_mbs kept kept kept broken kept
  pub rcu_mp_ruled : Reported rcu_mp kept kept kept kept broken
  pub rcu_mp_new_allowed : Allowed rcu_mp_new
  pub rcu_mp_old_allowed : Allowed rcu_mp_old
  pub split_rmw_ruled : Reported split_rmw kept broken kept kept kept
  -- the rounds of the broken rules, each a shortest one
  pub own_later_write_round : IsShortest (per_place (basis own_later_write)) (1 ∷ 2 ∷ [])
  pub lb_ctrl_mb_hb_round : IsShortest (hb (basis lb_ctrl_mb)) (2 ∷ 3 ∷ [])
  pub lb_ctrl_mb_pb_round : IsShortest (pb (basis lb_ctrl_mb)) (3 ∷ [])
  pub mp_wmb_rmb_round : IsShortest (hb (basis mp_wmb_rmb)) (5 ∷ 7 ∷ [])
  pub sb_mbs_round : IsShortest (pb (basis sb_mbs)) (4 ∷ 7 ∷ [])
  pub rcu_mp_round : IsShortestRound (scene (basis rcu_mp)) (3 ∷ 6 ∷ []) (Section ∷ Period ∷ [])
  pub split_rmw_round : IsAtRound (basis split_rmw) 2 1 3
  -- with both reads new the grace period goes first, and with both old the section
  pub rcu_mp_new_order : PutsFirst rcu_mp_new rcu_mp_lock rcu_mp_period false
  pub rcu_mp_old_order : PutsFirst rcu_mp_old rcu_mp_lock rcu_mp_period true
