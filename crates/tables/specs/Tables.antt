-- How the two tables hold a plain case, and what a call promises of them.
use Rattle.std.specs.Prelude.{◌≡◌, ℕ, ◌+◌, ◌<◌, ◌≤◌, true, false, List, ◌++◌, length, take, drop, replicate, Ok, Err, Result, slice_index, slice_index_or, slice_set}
use Rattle.rows.specs.Row.{Set, bit}
use Rattle.executions.specs.declared.events.Event.{Event}
use Rattle.executions.specs.declared.faults.Fault.{Fault}
use Rattle.executions.specs.declared.ties.Relation.{Relation}
use Rattle.executions.specs.Execution.{Execution, unused}
use Rattle.executions.specs.Ties.{relation_number}
use Rattle.executions.specs.Words.{word_at, ties_of}
use Rattle.executions.specs.declared.faults.Cause.TheVariants.{TooShort}
use Rattle.sources.specs.Source.{bounded}
use Rattle.wellformed.specs.WellFormed.{WellFormed}
use Rattle.tables.specs.declared.kinds.OpenCase.{OpenCase}
use Rattle.tables.specs.declared.kinds.SealedCase.{SealedCase}
use Rattle.tables.specs.declared.kinds.TableSource.{TableSource}
use Rattle.tables.specs.Plain.{Plain, Open, Sealed, blank, short, open_plain, seal_plain, reopen_plain, check_refusal}

-- the two tables, with the number of events that the open case carries
pub record Tables : Type 0 where
  pub count : ℕ
  pub records : List Event
  pub words : List ℕ

abbrev pub tables : OpenCase → List Event → List ℕ → Tables
tables c rs ws = record { count = c.count; records = rs; words = ws }

-- the execution that tables hold, whatever else is in them
abbrev pub held_execution : ℕ → List Event → List ℕ → Execution
held_execution n rs ws = record { events = take n rs; ties = ties_of ws }

-- the plain case of an open case and its tables
abbrev pub plain_of : Tables → Plain
plain_of t = record { execution = held_execution t.count t.records t.words; mark = Open }

-- nothing stands past the case: the other records and words are zeros, and so are the bits past the last event
pub record Exact (t : Tables) : Type 0 where
  pub other_records : (i : ℕ) → t.count ≤ i → i < 64 → slice_index_or t.records i unused ≡ unused
  pub other_words : (r : Relation) (a : ℕ) → t.count ≤ a → a < 64 → slice_index t.words (word_at (relation_number r) a) ≡ 0
  pub other_bits : (r : Relation) (a b : ℕ) → a < t.count → t.count ≤ b → ties_of t.words r a b ≡ false

-- the tables represent the plain case exactly
abbrev pub Represents : Tables → Plain → Type 0
Represents t p = (plain_of t ≡ p) × Exact t

-- What a call does that does `step` to the plain case, from the tables before it to those after it.
pub record Does {A : Type 0} (step : Plain → Plain × A) (before after : Tables) (answer : A) : Type 0 where
  -- on any tables: the answer, and the plain case that they hold then
  pub on_any : (plain_of after, answer) ≡ step (plain_of before)
  -- on tables that represent a plain case exactly
  pub on_exact : (p : Plain) → Represents before p → Represents after (step p).0 × (answer ≡ (step p).1)

-- ---- what each call writes, byte for byte

-- Enter writes one record; a refusal nothing.
abbrev pub Entered : Event → Tables → Tables → Result ℕ Fault → Type 0
Entered e t t' (Ok n) = t' ≡ record { count = t.count + 1; records = slice_set t.records t.count e; words = t.words }
Entered e t t' (Err f) = t' ≡ t

-- Tie and untie write one word, whose targets change as given; a refusal nothing.
abbrev pub Written : ℕ → (Set → Set) → List ℕ → List ℕ → Result (Unit {0}) Fault → Type 0
Written i change ws ws' (Ok _) = (w : ℕ) × (ws' ≡ slice_set ws i w) × (bit w ≡ change (bit (slice_index ws i)))
Written i change ws ws' (Err f) = ws' ≡ ws

-- Open: zeros and an exact blank case, or a refusal that writes nothing. Tables keep what they have past the part in use.
abbrev pub Opened : List Event → List ℕ → List Event → List ℕ → Result OpenCase Fault → Type 0
Opened rs ws rs' ws' (Ok c) =
    (open_plain (length rs) (length ws) ≡ Ok blank)
    × (rs' ≡ replicate 64 unused ++ drop 64 rs) × (ws' ≡ replicate 384 0 ++ drop 384 ws)
    × Represents (tables c rs' ws') blank
Opened rs ws rs' ws' (Err f) = (open_plain (length rs) (length ws) ≡ Err f) × (rs' ≡ rs) × (ws' ≡ ws)

-- ---- sealed cases

-- the plain case of a sealed case and its tables
abbrev pub sealed_plain : SealedCase → List Event → List ℕ → Plain
sealed_plain c rs ws = record { execution = held_execution c.count rs ws; mark = Sealed }

-- Seal writes no table. It gives the sealed case, which is then well formed, or hands the open case back with the fault.
abbrev pub Seals : OpenCase → List Event → List ℕ → Result SealedCase (OpenCase × Fault) → Type 0
Seals o rs ws (Ok c) =
    (seal_plain (length rs) (length ws) (plain_of (tables o rs ws)) ≡ (sealed_plain c rs ws, Ok tt)) × WellFormed (bounded (held_execution c.count rs ws))
Seals o rs ws (Err back) = (seal_plain (length rs) (length ws) (plain_of (tables o rs ws)) ≡ (plain_of (tables o rs ws), Err back.1)) × (back.0 ≡ o)

-- Reopen takes a sealed case back to the open one of the same tables.
abbrev pub Reopens : SealedCase → OpenCase → Type 0
Reopens c o = (rs : List Event) (ws : List ℕ) → reopen_plain (sealed_plain c rs ws) ≡ plain_of (tables o rs ws)

-- The table source of a sealed case means the records below its count and their words; short tables are refused.
abbrev pub Sources : SealedCase → List Event → List ℕ → Result TableSource Fault → Type 0
Sources c rs ws (Ok s) = (short (length rs) (length ws) ≡ false) × (held_execution s.count s.events.now s.ties.now ≡ held_execution c.count rs ws)
Sources c rs ws (Err f) = (short (length rs) (length ws) ≡ true) × (f ≡ check_refusal TooShort 0)
