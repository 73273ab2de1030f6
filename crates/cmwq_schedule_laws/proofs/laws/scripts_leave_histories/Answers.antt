use Rattle.cmwq_schedule_laws.proofs.Leaving.{scripts_leave}
use Rattle.cmwq_schedule_laws.proofs.laws.scripts_leave_histories.Goals as goal

pub returns : goal.returns
returns c = scripts_leave c.args.script.now c.counts-limits.ensures.limits c.requires
