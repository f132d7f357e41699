use Rattle.grace.proofs.Joint.{joint_order_law}
use Rattle.grace.proofs.joint_order_law_stands.Goals as goal

pub returns : goal.returns
returns c = joint_order_law
