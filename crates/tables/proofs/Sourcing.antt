-- What the tables answer as a case source.
use Rattle.std.proofs.lemmas.Bool.Decides.{nat_tests}
use Rattle.std.proofs.Common.{◌≡◌, ℕ, ◌<◌, ◌≤◌, min, ltb, List, length, get_or, take, Some, None, Option, sym, arith}
use denote.Ref.{Bor}
use Rattle.std.specs.Option.{is_some, option_map, option_copied, unwrap_or}
use Rattle.std.specs.List.{slice_get}
use Rattle.std.proofs.lemmas.List.{get_or-take, length-take}
use Rattle.std.proofs.lemmas.Option.{slice_get-get_or, slice_get_past}
use Rattle.rows.specs.Row.{bit}
use Rattle.rows.proofs.Bits.{bit_zero}
use Rattle.executions.specs.declared.events.Event.{Event}
use Rattle.executions.specs.declared.ties.Relation.{Relation}
use Rattle.executions.specs.Execution.{unused}
use Rattle.executions.specs.Ties.{relation_of}
use Rattle.executions.specs.Words.{ties_of}
use Rattle.sources.specs.Source.{targets}
use Rattle.tables.specs.Tables.{held_execution}

pub count_held : (n : ℕ) (rs : List Event) → min n (length rs) ≡ length (take n rs)
count_held n rs = sym (length-take n rs)

pub event_some : (n i : ℕ) (rs : List Event) → i < length (take n rs) → Some (get_or rs i unused) ≡ slice_get (take n rs) i
event_some n i rs h = grind (arith, nat_tests, slice_get-get_or, get_or-take, length-take)

pub event_none : (n i : ℕ) (rs : List Event) → length (take n rs) ≤ i → None ≡ slice_get (take n rs) i
event_none n i rs h = sym (slice_get_past (take n rs) i h)

-- what reading a record gives, below the count
pub event_read : (n i : ℕ) (rs : List Event) (o : Option (Bor Event)) → is_some o ≡ ltb i (length rs) → ((d : Event) → unwrap_or (option_map (λ x. x.now) o) d ≡ get_or rs i d)
    → i < n → option_copied o ≡ slice_get (take n rs) i
event_read n i rs None some value h = grind (arith, nat_tests, event_none, length-take)
event_read n i rs (Some e) some value h = grind (arith, nat_tests, event_some, length-take)

-- ---- rows

-- a row of the tables, as a source answers it
pub row_some : (n : ℕ) (rs : List Event) (ws : List ℕ) (number : ℕ) (r : Relation) (a w : ℕ) → Some r ≡ relation_of number → a < length (take n rs)
    → bit w ≡ ties_of ws r a → bit w ≡ targets (held_execution n rs ws) number a
unfolding targets ties_of
row_some n rs ws number r a w known h is = grind (arith, nat_tests)

pub row_past : (n : ℕ) (rs : List Event) (ws : List ℕ) (number a : ℕ) → length (take n rs) ≤ a → bit 0 ≡ targets (held_execution n rs ws) number a
unfolding targets
row_past n rs ws number a h = grind (arith, nat_tests, bit_zero)

pub row_none : (n : ℕ) (rs : List Event) (ws : List ℕ) (number a : ℕ) → None ≡ relation_of number → bit 0 ≡ targets (held_execution n rs ws) number a
unfolding targets
row_none n rs ws number a e = grind (arith, nat_tests, bit_zero)
