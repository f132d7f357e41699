use Rattle.std.proofs.Common.{get_or, arith, rules, length-set}
use Rattle.std.proofs.lemmas.List.{get_or_default}
use Rattle.rulings.proofs.Drawing.{drawn_more}
use Rattle.rulings.proofs.sheets.draw.Goals as goal

pub loop-i-preserved : goal.loop-i-preserved
loop-i-preserved c =
    let i = c.loop-i.i in
    let page = c.args.page.now in
    record {
      all = simp length-set c.loop-i.invariant.all;
      drawn = drawn_more c.loop-i.row-items
          (λ k. record { event = get_or page.events k 255; mark = get_or page.marks k 255; first = get_or c.args.first.now k 255; second = get_or c.args.second.now k 255; word = get_or c.args.words.now k 0 })
          i _ (omega arith)
          (λ j. record {
            event = get_or_default page.events i 0 255 (search rules) j;
            mark = get_or_default page.marks i 0 255 (search rules) j;
            first = get_or_default c.args.first.now i 0 255 (search rules) j;
            second = get_or_default c.args.second.now i 0 255 (search rules) j;
            word = get_or c.args.words.now i 0;
          })
          c.loop-i.invariant.drawn;
    }
