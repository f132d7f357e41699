use Rattle.rulings.proofs.Rounding.{split_few}
use Rattle.rulings.proofs.rounds_of.split_page.Goals as goal

pub three-requires : goal.three-requires
three-requires c =
    let s = c.in-Some.split in
    let few = split_few c.args.model.now s.read s.between s.write c.in-Some.ensures.found in record { read = few.0; between = few.1.0; write = few.1.1 }
