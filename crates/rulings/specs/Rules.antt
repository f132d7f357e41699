-- The rules as a ruling names them: what each says, and what a round of it is.
use Rattle.std.specs.Prelude.{◌≡◌, ℕ, List, [], ◌∷◌, map, length, replicate}
use Rattle.relations.specs.Algebra.{Rel}
use Rattle.searches.specs.Cycles.{IsShortest}
use Rattle.rounds.specs.Marks.{number}
use Rattle.rounds.specs.Rounds.{IsShortestRound}
use Rattle.rounds.specs.declared.kinds.Mark.{Mark}
use Rattle.grace.specs.Scene.{Scene}
use Rattle.basis.specs.Basis.{Basis}
use Rattle.lkmm.specs.Model.{hb, pb}
use Rattle.lkmm.specs.Rules as lkmm
use Rattle.rulings.specs.declared.kinds.Rule.{Rule}
use Rattle.rulings.specs.declared.kinds.Rule.TheVariants.{Scpv, At, Hb, Pb, Rcu}

-- all rules, in their order
abbrev pub rules : List Rule
rules = Scpv ∷ At ∷ Hb ∷ Pb ∷ Rcu ∷ []

-- the case keeps the rule
abbrev pub Keeps : Basis → Rule → Type 0
Keeps b Scpv = lkmm.Scpv b
Keeps b At = lkmm.At b
Keeps b Hb = lkmm.Hb b
Keeps b Pb = lkmm.Pb b
Keeps b Rcu = lkmm.Rcu b

-- a round of At: the read, the write between and the write
pub record SplitRound (b : Basis) (es ms : List ℕ) : Type 0 where
  pub read : ℕ
  pub between : ℕ
  pub write : ℕ
  pub split : lkmm.IsAtRound b read between write
  pub listed : es ≡ read ∷ between ∷ write ∷ []
  pub unmarked : ms ≡ 0 ∷ 0 ∷ 0 ∷ []

-- a shortest cycle of the relation of a rule, its steps unmarked
pub record CycleRound (r : Rel) (es ms : List ℕ) : Type 0 where
  pub shortest : IsShortest r es
  pub unmarked : ms ≡ replicate (length es) 0

-- a shortest round of Rcu with its marks
pub record MarkedRound (x : Scene) (es ms : List ℕ) : Type 0 where
  pub steps : List Mark
  pub shortest : IsShortestRound x es steps
  pub marked : ms ≡ map number steps

-- the events es with the marks ms are a shortest round of the rule
abbrev pub RoundOf : Basis → Rule → List ℕ → List ℕ → Type 0
RoundOf b Scpv es ms = CycleRound (lkmm.per_place b) es ms
RoundOf b At es ms = SplitRound b es ms
RoundOf b Hb es ms = CycleRound (hb b) es ms
RoundOf b Pb es ms = CycleRound (pb b) es ms
RoundOf b Rcu es ms = MarkedRound (lkmm.scene b) es ms
