use Rattle.cmwq_output_laws.proofs.OneBar.{bars_are_of_starts}
use Rattle.cmwq_output_laws.proofs.bars.bars_are_of_starts.Goals as goal

pub returns : goal.returns
returns c = bars_are_of_starts
