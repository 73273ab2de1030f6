use Rattle.cmwq_theory_laws.proofs.WithinWidth.{within_width}
use Rattle.cmwq_theory_laws.proofs.headline.active_are_within_width.Goals as goal

pub returns : goal.returns
returns c = within_width
