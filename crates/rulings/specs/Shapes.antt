-- What there is in a case to put in an order: its sections and its periods.
use Rattle.std.specs.Prelude.{◌≡◌}
use Rattle.rows.specs.Row.{bit, any}
use Rattle.executions.specs.declared.sorts.Sort.TheVariants.{SyncRcu}
use Rattle.executions.specs.Execution.{Execution, count}
use Rattle.basis.specs.Meaning.{of_sort}
use Rattle.basis.specs.Sections.{crit}
use Rattle.rulings.specs.declared.shapes.Shape.{Shape}

-- how many events, the locks of sections, and the sync-rcu events
pub record Shaped (x : Execution) (s : Shape) : Type 0 where
  pub events_are : s.events ≡ count x
  pub locks_are : bit s.locks ≡ (λ l. any 64 (crit x l))
  pub periods_are : bit s.periods ≡ of_sort SyncRcu x
