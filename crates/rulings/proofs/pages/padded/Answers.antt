use Rattle.rulings.proofs.Columns.{padded_is}
use Rattle.rulings.proofs.pages.padded.Goals as goal

pub returns : goal.returns
returns c = padded_is 64 c.args.bytes.now _ c.copy_from_slice.ensures.after c.requires
