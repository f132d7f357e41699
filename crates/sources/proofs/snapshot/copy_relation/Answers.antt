use Rattle.std.proofs.Common.{◌≡◌, ℕ, length, ap, ◌∙◌, arith, length-take, length-drop}
use Rattle.rows.specs.Row.{bit}
use Rattle.sources.specs.Source.{targets}
use Rattle.sources.proofs.Copying.{row_more, placed, placed_before}
use Rattle.sources.proofs.snapshot.copy_relation.Goals as goal

pub loop-a-init : goal.loop-a-init
loop-a-init g c = λ x h. absurd (omega arith)

pub loop-a-preserved : goal.loop-a-preserved
loop-a-preserved g c =
    row_more c.loop-a.word-items (g.S.CaseSource.meaning c.args.source.now) c.from-number.result c.loop-a.a c.row.result (omega arith) c.loop-a.invariant c.row.ensures

pub returns : goal.returns
returns g c =
    let long : length c.loop-a.word-items ≡ c.args.count = omega (arith, simp (length-take, length-drop) at c.loop-a.auto.word-items) in
    record {
      copied = λ a h.
          ap bit (placed c.args.words.now c.loop-a.word-items _ c.first_word-first.result c.args.count (omega arith) long a _ h (omega (arith, c.first_word-first.ensures.place)))
          ∙ c.loop-a.invariant a (omega (arith, long))
          ∙ ap (λ (n : ℕ). targets (g.S.CaseSource.meaning c.args.source.now) n a) (c.from-number.ensures ∙ c.number.ensures);
      before = λ i h. placed_before c.args.words.now c.loop-a.word-items _ c.first_word-first.result c.args.count (omega arith) long i (omega arith);
    }
