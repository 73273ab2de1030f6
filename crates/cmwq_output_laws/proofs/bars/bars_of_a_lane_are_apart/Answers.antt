use Rattle.cmwq_output_laws.proofs.OneBar.{lanes_are_apart}
use Rattle.cmwq_output_laws.proofs.bars.bars_of_a_lane_are_apart.Goals as goal

pub returns : goal.returns
returns c = lanes_are_apart
