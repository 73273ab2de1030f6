use Rattle.std.proofs.Common.{rules}
use Rattle.cmwq_monitor.proofs.monitor.Monitor.settle.Goals as goal

pub returns-clause-settled : goal.returns-clause-settled
returns-clause-settled g c = search rules
