use Rattle.cmwq_base.proofs.Sound.{one_or_three}
use Rattle.cmwq_base.proofs.files.read_calls.Goals as goal

pub returns-clause-version : goal.returns-clause-version
returns-clause-version g c = one_or_three c.in_ok-file.file.version c.in_ok-file.ensures.version
