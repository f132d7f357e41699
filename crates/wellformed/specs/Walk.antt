-- What a walk through the ties of a relation carries along, for the limits on ties.
use Rattle.std.specs.Prelude.{◌≡◌, ℕ, Bool, false, cond, ◌&&◌, ◌||◌, nat_lt}
use Rattle.rows.specs.Row.{Set, bit, any, adding}
use Rattle.executions.specs.declared.ties.Relation.{Relation}
use Rattle.executions.specs.declared.ties.Relation.TheVariants.{Rf, Co, Addr, Data, Ctrl, Rmw}
use Rattle.executions.specs.Execution.{Execution}

-- the ends of the ties from the events before a: the events that they lead to, and those that they come from
pub record Before (x : Execution) (r : Relation) (a targets sources : ℕ) : Type 0 where
  pub led_to : (e : ℕ) → bit targets e ≡ any a (λ c. x.ties r c e)
  pub come_from : (e : ℕ) → bit sources e ≡ (nat_lt e a && any 64 (x.ties r e))

-- one source more, if it has a tie
abbrev pub source_if : Bool → ℕ → Set → Set
source_if tied a s = cond tied (adding a s) s

-- the limits by what is carried along: `row` has the targets of a itself
abbrev pub over_by : Relation → ℕ → ℕ → Set → Set → Set → Bool
over_by Rf a b row targets sources = targets b
over_by Co a b row targets sources = false
over_by Addr a b row targets sources = false
over_by Data a b row targets sources = false
over_by Ctrl a b row targets sources = false
over_by Rmw a b row targets sources = (targets a || sources a) || ((targets b || sources b) || any b row)
