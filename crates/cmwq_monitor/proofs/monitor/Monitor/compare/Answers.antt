use Rattle.std.proofs.Common.{rules}
use Rattle.cmwq_monitor.proofs.monitor.Monitor.compare.Goals as goal

pub returns-clause-step : goal.returns-clause-step
returns-clause-step g c = search rules
