use Rattle.cmwq_output_laws.proofs.OneBar.{starts_have_one_bar}
use Rattle.cmwq_output_laws.proofs.bars.starts_have_one_bar.Goals as goal

pub returns : goal.returns
returns c = starts_have_one_bar
