use Rattle.std.proofs.Common.{◌≡◌, ℕ, List, Option, sym, ap, ◌∙◌, subst}
use Rattle.caselines.specs.declared.lines.Line.{Line}
use Rattle.caselines.specs.Fields.{then}
use Rattle.caselines.specs.Lines.{line_of, line_from, Named}
use Rattle.caselines.proofs.Spelling.{line_named}
use Rattle.caselines.proofs.reading.read_line.Goals as goal

-- an answer that is the line's names it
names : (bs : List ℕ) (r : Option Line) → r ≡ line_of bs → record { value : r ≡ line_of bs; named : Named bs r }
names bs r e = record { value = e; named = subst (λ o. Named bs o) (sym e) (line_named bs) }

pub returns-in_err-word : goal.returns-in_err-word
unfolding line_of
returns-in_err-word c =
    names c.args.bytes.now c.from_residual.result
    (c.from_residual.ensures ∙ ap (λ o. then o (λ p. line_from p.0 p.1)) (sym c.in_err-word.ensures))

pub returns : goal.returns
unfolding line_of
returns c =
    names c.args.bytes.now c.line_from.result
    (c.line_from.ensures ∙ ap (λ o. then o (λ p. line_from p.0 p.1)) (sym c.in_ok-word.ensures))
