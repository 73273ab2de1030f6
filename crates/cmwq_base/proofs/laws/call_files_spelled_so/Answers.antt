use Rattle.cmwq_base.proofs.CallsSpelled as laws
use Rattle.cmwq_base.proofs.laws.call_files_spelled_so.Goals as goal

pub returns : goal.returns
returns c = laws.call_files_spelled_so
