use Rattle.cmwq_monitor.proofs.Entries.{gains_none}
use Rattle.cmwq_monitor.proofs.monitor.Monitor.call_in_run.Goals as goal

pub returns-in-Err-clause-refused : goal.returns-in-Err-clause-refused
returns-in-Err-clause-refused g c = (gains_none c.args.participant.now, c.in-Err.ensures.says c.args.call)

pub returns-in-Ok-entered-clause-goes_on : goal.returns-in-Ok-entered-clause-goes_on
returns-in-Ok-entered-clause-goes_on g c = (c.in-Ok.ensures.open, c.in-Ok-entered.ensures.goes_on)
