use Rattle.std.proofs.Common.{◌≡◌, ◌&&◌, ◌/◌, ◌%◌, ltb, sym, ap, ◌∙◌, Some, cond, [], ◌∷◌}
use Rattle.std.proofs.lemmas.Bool.{lt-ltb, le-ltb}
use Rattle.executions.specs.Execution.{count}
use Rattle.sources.specs.Snapshot.{execution}
use Rattle.caselines.specs.declared.lines.Line.TheVariants.{Tie}
use Rattle.casewriter.specs.Laid.{listed}
use Rattle.casewriter.proofs.Gathering.{line_by, listed_some, all_three, not_both}
use Rattle.casewriter.proofs.ties.tie_line.Goals as goal
use Rattle.casewriter.proofs.ties.tie_line.Goals.{then-first-count, else-first-count, then-second-count, else-second-count}

pub returns : goal.returns
returns c =
    let x = execution c.args.case.now in
    let k = c.args.number in
    let r = c.in_ok-relation.relation in
    let p = ltb (k / 64 % 64) (count x) in
    let q = ltb (k % 64) (count x) in
    let t = x.ties r (k / 64 % 64) (k % 64) in
    let ends : c.if-first-count.value ≡ (p && q) = elim c.if-first-count.branch [
      | then-first-count w ↦
          rw (lt-ltb (k / 64 % 64) (count x) (rw c.count.ensures at w.if-first-count.true)) (w.value-is ∙ ap (ltb (k % 64)) w.count-then-first-count.ensures)
      | else-first-count w ↦
          let past = le-ltb (k / 64 % 64) (count x) (rw c.count.ensures at w.if-first-count.false) in
          rw past (w.value-is ∙ ap (ltb (k / 64 % 64)) c.count.ensures ∙ past)
    ] in
    let there : c.if-second-count.there ≡ (p && (q && t)) = elim c.if-second-count.branch [
      | then-second-count w ↦ all_three p q t _ (sym ends ∙ w.if-second-count.true) (w.there-is ∙ w.has-there.ensures ∙ ap (λ s. s (k % 64)) w.row.ensures)
      | else-second-count w ↦ not_both p q t _ (sym ends ∙ w.if-second-count.false) (w.there-is ∙ w.if-second-count.false)
    ] in
    ap listed c.then_some.ensures
    ∙ listed_some c.if-second-count.there (Tie r (k / 64 % 64) (k % 64))
    ∙ ap (λ b. cond b (Tie r (k / 64 % 64) (k % 64) ∷ []) []) there
    ∙ line_by x k (Some r) c.in_ok-relation.ensures
