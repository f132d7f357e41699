-- Which executions are cases: those whose events and ties the calls enter and tie accept.
use Rattle.std.specs.Prelude.{◌≡◌, ℕ, ◌<◌, ◌≤◌, true, ◌⊎◌}
use Rattle.std.specs.List.{AllByRecursion}
use Rattle.executions.specs.declared.ties.Relation.{Relation}
use Rattle.executions.specs.declared.ties.Relation.TheVariants.{Rf, Rmw}
use Rattle.executions.specs.Events.{in_range}
use Rattle.executions.specs.Execution.{Execution, count, event_at}
use Rattle.executions.specs.Ties.{fits}

-- the event e is one of two
abbrev pub Stands : ℕ → ℕ → ℕ → Type 0
Stands e a b = (e ≡ a) ⊎ (e ≡ b)

pub record Case (x : Execution) : Type 0 where
  -- at most 64 events, each in range
  pub few : count x ≤ 64
  pub range : AllByRecursion (λ e. in_range e ≡ true) x.events
  -- ties go from event to event, and fit
  pub inside : (r : Relation) (a b : ℕ) → x.ties r a b ≡ true → (a < count x) × (b < count x)
  pub fit : (r : Relation) (a b : ℕ) → x.ties r a b ≡ true → fits r a (event_at x a) b (event_at x b) ≡ true
  -- a read has one rf tie, and an event stands in one rmw tie
  pub one_rf : (a b c : ℕ) → x.ties Rf a c ≡ true → x.ties Rf b c ≡ true → a ≡ b
  pub one_rmw : (a b c d e : ℕ) → x.ties Rmw a b ≡ true → x.ties Rmw c d ≡ true → Stands e a b → Stands e c d → (a ≡ c) × (b ≡ d)
