-- The relations of the model as a program, evaluated for an execution.
use Rattle.std.proofs.Common.{ℕ, ◌≤◌, List, [], ◌∷◌, map, get_or}
use Rattle.relations.specs.Algebra.{Rel, empty, union, plus, star}
use Rattle.executions.specs.declared.ties.Relation.TheVariants.{Rf, Co, Addr, Data, Ctrl, Rmw}
use Rattle.executions.specs.Execution.{Execution, count}
use Rattle.basis.specs.Basis.{Basis, id, ext}
use Rattle.basis.specs.Meaning.{basis, po, int, loc, tied}
use Rattle.basis.specs.Sections.{crit}
use Rattle.grace.specs.Scene as Scenes
use Rattle.grace.specs.Law.{section_first, period_first}
use Rattle.lkmm.specs.Model.{fr, «com», po_loc, rfi, rfe, «coe», fre, between, mb, rmb, rb_dep, wmb, acq_po, po_rel, rfi_rel_acq, gp, strong_fence, dep, rwdep, overwrite, to_w, rrdep, strong_rrdep, to_r, fence, ppo, cumul_fence, prop, hb, pb}
use Rattle.lkmm.specs.Rules.{per_place, broken_rmw, scene}
use Rattle.rounds.specs.Marks.{period_step, section_step}
use Rattle.worked.proofs.Rows.{Rows, tab}
use Rattle.worked.proofs.Programs.{Exp, At, Or, And, Less, Then, Back, Closed, Maybe, From, To, Across, mean, means, run, run_agrees, AllOn, agree_at, agree_first, Holds}
use Rattle.basis.proofs.Members.{on_po, on_int, on_loc, on_tied}
use Rattle.worked.proofs.Inside.{on_crit, on_ext, on_id, on_section_first, on_period_first}

-- what it starts from: what the model is given, and the pairs that a lock and a period give in either order
unfoldable pub bases : Execution → ℕ → ℕ → List Rel
bases x l s =
    po x ∷ int x ∷ loc x ∷ tied Rf x ∷ tied Co x ∷ tied Addr x ∷ tied Data x ∷ tied Ctrl x ∷ tied Rmw x ∷ crit x ∷ ext (basis x) ∷ id (basis x)
    ∷ section_first (scene (basis x)) l s ∷ period_first (scene (basis x)) l s ∷ []

bases_on : (x : Execution) (l s : ℕ) → AllOn (count x) (bases x l s)
unfolding bases
bases_on x l s = (
  on_po x,
  (
    on_int x,
    (
      on_loc x,
      (
        on_tied Rf x,
        (
          on_tied Co x,
          (
            on_tied Addr x,
            (
              on_tied Data x,
              (
                on_tied Ctrl x,
                (
                  on_tied Rmw x,
                  (on_crit x, (on_ext x, (on_id x, (on_section_first x l s, (on_period_first x l s, tt))))),
                ),
              ),
            ),
          ),
        ),
      ),
    ),
  ),
)

-- the program: each line is one relation, by the number that is next
unfoldable pub model : Basis → List Exp
model b =
    -- 14 co, 15 fr, 16 per-place and 17 its closure, 18 broken-rmw
    Closed (At 4)
    ∷ Then (Back (At 3)) (At 14)
    ∷ Or (And (At 0) (At 2)) (Or (At 3) (Or (At 14) (At 15)))
    ∷ Closed (At 16)
    ∷ And (At 8) (Then (And (At 15) (At 10)) (And (At 14) (At 10)))
    -- 19 gp, 20 strong-fence, 21 wmb, 22 po-rel, 23 rfe, 24 overwrite
    ∷ Then (To (At 0) b.periods) (Maybe (At 0))
    ∷ Or (Then (To (At 0) b.mbs) (At 0)) (At 19)
    ∷ From b.writes (To (Then (To (At 0) b.wmbs) (At 0)) b.writes)
    ∷ To (At 0) b.releases
    ∷ And (At 3) (At 10)
    ∷ Or (At 14) (At 15)
    -- 25 prop
    ∷ Then (Maybe (And (At 24) (At 10))) (Then (Maybe (Closed (Or (Then (Maybe (At 23)) (Or (At 20) (At 22))) (At 21)))) (Maybe (At 23)))
    -- 26 dep, 27 rfi, 28 rrdep and 29 its closure
    ∷ Or (At 5) (At 6)
    ∷ And (At 3) (At 1)
    ∷ Or (At 5) (Then (At 26) (At 27))
    ∷ Closed (At 28)
    -- 30 to-r, 31 to-w, 32 fence, 33 ppo
    ∷ Or (And (At 29) (From b.reads (To (Then (To (At 0) b.rb_deps) (At 0)) b.reads))) (From b.releases (To (At 27) b.acquires))
    ∷ Or (Across (Or (At 26) (At 7)) b.reads b.writes) (And (At 24) (At 1))
    ∷ Or (At 20) (Or (At 22) (Or (At 21) (Or (From b.reads (To (Then (To (At 0) b.rmbs) (At 0)) b.reads)) (From b.acquires (At 0)))))
    ∷ Then (Maybe (At 29)) (Or (At 30) (Or (At 31) (At 32)))
    -- 34 hb, 35 its closure, 36 hb*
    ∷ Or (And (Less (At 25) (At 11)) (At 1)) (Or (At 33) (At 23))
    ∷ Closed (At 34)
    ∷ Maybe (At 35)
    -- 37 pb and 38 its closure
    ∷ Then (At 25) (Then (At 20) (At 36))
    ∷ Closed (At 37)
    -- 39 link, 40 rscs, 41 period steps, 42 section steps
    ∷ Then (At 36) (Then (Maybe (At 38)) (At 25))
    ∷ Then (At 0) (Then (Back (At 9)) (Maybe (At 0)))
    ∷ Then (At 19) (At 39)
    ∷ Then (At 40) (At 39)
    -- 43 pb with the section first and 44 its closure, 45 pb with the period first and 46 its closure
    ∷ Then (At 25) (Then (Or (At 20) (At 12)) (At 36))
    ∷ Closed (At 43)
    ∷ Then (At 25) (Then (Or (At 20) (At 13)) (At 36))
    ∷ Closed (At 45)
    -- 47 fre, 48 coe
    ∷ And (At 15) (At 10)
    ∷ And (At 14) (At 10)
    ∷ []

-- ---- the rows of each relation

unfoldable pub rows : Execution → ℕ → ℕ → ℕ → Rows
rows x l s i = get_or (run (count x) (map (tab (count x)) (bases x l s)) (model (basis x))) i []

worth : (x : Execution) → count x ≤ 64 → (l s i : ℕ) → Holds (count x) (rows x l s i) (get_or (means (count x) (bases x l s) (model (basis x))) i empty)
unfolding rows
worth x few l s = agree_at (run_agrees (count x) few (model (basis x)) (agree_first (count x) (bases x l s) (bases_on x l s)))

-- pb enlarged by the pairs of the section l and the period s, with the section first or the period
unfoldable pub section_pb : Execution → ℕ → ℕ → Rel
section_pb x l s = Scenes.pb (scene (basis x)) (union (scene (basis x)).strong (section_first (scene (basis x)) l s))

unfoldable pub period_pb : Execution → ℕ → ℕ → Rel
period_pb x l s = Scenes.pb (scene (basis x)) (union (scene (basis x)).strong (period_first (scene (basis x)) l s))

-- the rows by number are those of the relations of the model
pub record Modelled (x : Execution) (l s : ℕ) : Type 0 where
  pub per_place_rows : Holds (count x) (rows x l s 16) (per_place (basis x))
  pub per_place_closed : Holds (count x) (rows x l s 17) (plus (per_place (basis x)))
  pub broken_rmw_rows : Holds (count x) (rows x l s 18) (broken_rmw (basis x))
  pub prop_rows : Holds (count x) (rows x l s 25) (prop (basis x))
  pub hb_rows : Holds (count x) (rows x l s 34) (hb (basis x))
  pub hb_closed : Holds (count x) (rows x l s 35) (plus (hb (basis x)))
  pub pb_rows : Holds (count x) (rows x l s 37) (pb (basis x))
  pub pb_closed : Holds (count x) (rows x l s 38) (plus (pb (basis x)))
  pub period_step_rows : Holds (count x) (rows x l s 41) (period_step (scene (basis x)))
  pub section_step_rows : Holds (count x) (rows x l s 42) (section_step (scene (basis x)))
  pub section_pb_rows : Holds (count x) (rows x l s 43) (section_pb x l s)
  pub section_pb_closed : Holds (count x) (rows x l s 44) (plus (section_pb x l s))
  pub period_pb_rows : Holds (count x) (rows x l s 45) (period_pb x l s)
  pub period_pb_closed : Holds (count x) (rows x l s 46) (plus (period_pb x l s))
  pub fre_rows : Holds (count x) (rows x l s 47) (fre (basis x))
  pub coe_rows : Holds (count x) (rows x l s 48) («coe» (basis x))

pub modelled : (x : Execution) → count x ≤ 64 → (l s : ℕ) → Modelled x l s
unfolding means mean model bases basis scene section_pb period_pb period_step section_step Scenes.gp Scenes.rscs Scenes.pb Scenes.link star per_place po_loc «com» broken_rmw fr fre «coe» rfi rfe between mb rmb rb_dep wmb acq_po po_rel rfi_rel_acq gp strong_fence dep rwdep overwrite to_w rrdep strong_rrdep to_r fence ppo cumul_fence prop hb pb
modelled x few l s = record {
  per_place_rows = worth x few l s 16;
  per_place_closed = worth x few l s 17;
  broken_rmw_rows = worth x few l s 18;
  prop_rows = worth x few l s 25;
  hb_rows = worth x few l s 34;
  hb_closed = worth x few l s 35;
  pb_rows = worth x few l s 37;
  pb_closed = worth x few l s 38;
  period_step_rows = worth x few l s 41;
  section_step_rows = worth x few l s 42;
  section_pb_rows = worth x few l s 43;
  section_pb_closed = worth x few l s 44;
  period_pb_rows = worth x few l s 45;
  period_pb_closed = worth x few l s 46;
  fre_rows = worth x few l s 47;
  coe_rows = worth x few l s 48;
}
