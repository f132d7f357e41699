-- What a cut hides.
use Rattle.std.specs.Prelude.{ℕ, Bool, not, ◌&&◌, ◌==◌, nat_le}
use Rattle.executions.specs.declared.ties.Relation.TheVariants.{Addr, Ctrl}
use Rattle.executions.specs.Execution.{Execution}
use Rattle.executions.specs.Ties.{relation_number}

-- a cut may name addr, data or ctrl
abbrev pub is_dependency : ℕ → Bool
is_dependency number = nat_le (relation_number Addr) number && nat_le number (relation_number Ctrl)

-- a cut that names a relation and an event hides the ties of that relation out of that event
abbrev pub hides : ℕ → ℕ → ℕ → ℕ → Bool
hides number e n a = is_dependency number && (n == number && a == e)

-- the execution without the ties that are hidden
abbrev pub cut : ℕ → ℕ → Execution → Execution
cut number e x = record { events = x.events; ties = λ r a b. x.ties r a b && not (hides number e (relation_number r) a) }
