use Rattle.std.proofs.Common.{rules, ◌≡◌, ℕ, List, ◌++◌, drop, replicate, length, sym, refl, ap, ◌∙◌, subst₂, arith}
use Rattle.std.proofs.lemmas.List.{length-take-le}
use Rattle.executions.specs.declared.events.Event.{Event}
use Rattle.executions.specs.Execution.{unused}
use Rattle.tables.specs.Plain.{blank}
use Rattle.tables.specs.Tables.{Represents}
use Rattle.tables.proofs.Holding.{allowed, long, holds_blank}
use Rattle.tables.proofs.kinds.OpenCase.open.Goals as goal

pub slice_bounds-fill-end-2 : goal.slice_bounds-fill-end-2
slice_bounds-fill-end-2 c =
    let l = long (length c.args.events.now) (length c.args.ties.now) (allowed _ _ c.in_ok-test_lengths.ensures) in
    sym (length-take-le _ c.args.events.now (omega (arith, l.0)))

pub slice_bounds-fill-end-4 : goal.slice_bounds-fill-end-4
slice_bounds-fill-end-4 c =
    let l = long (length c.args.events.now) (length c.args.ties.now) (allowed _ _ c.in_ok-test_lengths.ensures) in
    sym (length-take-le _ c.args.ties.now (omega (arith, l.1)))

pub returns : goal.returns
returns c =
    let l = long (length c.args.events.now) (length c.args.ties.now) (allowed _ _ c.in_ok-test_lengths.ensures) in
    let records : c.fill.new.self ≡ replicate 64 unused = c.fill.ensures.after (λ y p. search rules) ∙ ap (λ (n : ℕ). replicate n unused) (length-take-le 64 c.args.events.now l.0) in
    let words : c.fill-2.new.self ≡ replicate 384 0 = c.fill-2.ensures.after (λ y p. search rules) ∙ ap (λ (n : ℕ). replicate {A = ℕ} n 0) (length-take-le 384 c.args.ties.now l.1) in (
      rw (allowed _ _ c.in_ok-test_lengths.ensures) refl,
      ap (λ (rs : List Event). rs ++ drop 64 c.args.events.now) records,
      ap (λ (ws : List ℕ). ws ++ drop 384 c.args.ties.now) words,
      subst₂ (λ (rs : List Event) (ws : List ℕ). Represents (record { count = 0; records = rs ++ drop 64 c.args.events.now; words = ws ++ drop 384 c.args.ties.now }) blank)
          (sym records) (sym words) (holds_blank (drop 64 c.args.events.now) (drop 384 c.args.ties.now)),
    )
