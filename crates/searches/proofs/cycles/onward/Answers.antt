use Rattle.searches.proofs.Meets.{meet_some, meet_parts}
use Rattle.searches.proofs.cycles.onward.Goals as goal

pub unwrap-requires : goal.unwrap-requires
unwrap-requires c = meet_some _ _ _ c.requires c.lowest.ensures

pub returns : goal.returns
returns c = meet_parts _ _ _ _ c.unwrap.ensures c.lowest.ensures
