-- The rows of an execution without ties.
use Rattle.std.proofs.Common.{◌≡◌, ℕ, false, ◌&&◌, ltb, List, length, Some, None, Option, sym, refl, ◌∙◌}
use mathlib.Core.Path.{fun_ext}
use Rattle.rows.specs.Row.{bit}
use Rattle.rows.proofs.Bits.{bit_zero}
use Rattle.executions.specs.declared.events.Event.{Event}
use Rattle.executions.specs.declared.ties.Relation.{Relation}
use Rattle.executions.specs.Ties.{relation_of}
use Rattle.executions.proofs.Words.{and_false}
use Rattle.sources.specs.Source.{targets}

pub no_targets : (es : List Event) (n a : ℕ) → bit 0 ≡ targets (record { events = es; ties = λ r c d. false }) n a
unfolding targets
no_targets es n a = fun_ext λ b. bit_zero b ∙ sym (go (relation_of n) b)
  where
    go : (o : Option Relation) (b : ℕ) → elim o [ None ↦ false | Some r ↦ ltb a (length es) && (ltb b 64 && false) ] ≡ false
    go None b = refl
    go (Some r) b = and_false (ltb a (length es)) (ltb b 64)
