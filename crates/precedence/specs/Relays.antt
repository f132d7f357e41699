-- Relays of one kind, added one after another: the sheets that they make.
use Rattle.std.specs.Prelude.{◌≡◌, ℕ, suc, Bool, refl}
use Rattle.rows.specs.Row.{bit}
use Rattle.relations.specs.Algebra.{Set}
use Rattle.grace.specs.Scene.{Scene}
use Rattle.grace.specs.Law.{before_unlock, from_on}
use Rattle.grace.specs.Sheet.{Sheet, joined, relayed, turns}
use Rattle.grace.specs.Deciding.{before_period, period_sheet, section_sheet}
use Rattle.precedence.specs.declared.balances.Relay.{Relay}

-- a relay of the code makes a round with a sheet
abbrev pub turned : Sheet → Relay → Bool
turned m r = turns m (bit r.into) (bit r.out) r.periods r.sections

-- the sheet with the relay besides
abbrev pub after : Sheet → Relay → Sheet
after m r = relayed m (bit r.into) (bit r.out) r.periods r.sections

-- the entry for two ways, one after the other, with the relay between them
abbrev pub joined_over : Relay → ℕ → ℕ → ℕ
joined_over r = joined r.periods r.sections

-- the sheets of a kind of relay: each is the one before with one relay besides
pub record Stairs : Type 0 where
  pub stage : ℕ → Sheet
  pub ins : ℕ → Set
  pub outs : ℕ → Set
  pub up : ℕ
  pub down : ℕ
  pub next : (s : ℕ) → stage (suc s) ≡ relayed (stage s) (ins s) (outs s) up down

-- relay k makes a round with those before it
abbrev pub turning : Stairs → Set
turning z k = turns (z.stage k) (z.ins k) (z.outs k) z.up z.down

-- r is relay k of the code
pub record IsRelay (z : Stairs) (k : ℕ) (r : Relay) : Type 0 where
  pub enters : bit r.into ≡ z.ins k
  pub leaves : bit r.out ≡ z.outs k
  pub counts_periods : r.periods ≡ z.up
  pub counts_sections : r.sections ≡ z.down

module _ (x : Scene) where
  pub period_next : (s : ℕ) → period_sheet x (suc s) ≡ relayed (period_sheet x s) (before_period x s) (from_on x s) 1 0
  unfolding period_sheet
  period_next s = refl

  pub section_next : (l : ℕ) → section_sheet x (suc l) ≡ relayed (section_sheet x l) (before_unlock x l) (from_on x l) 0 1
  unfolding section_sheet
  section_next l = refl

  -- grace periods, from links alone
  abbrev pub periods : Stairs
  periods = record { stage = period_sheet x; ins = before_period x; outs = from_on x; up = 1; down = 0; next = period_next }

  -- sections, from the sheet with all periods
  abbrev pub sections : Stairs
  sections = record { stage = section_sheet x; ins = before_unlock x; outs = from_on x; up = 0; down = 1; next = section_next }
