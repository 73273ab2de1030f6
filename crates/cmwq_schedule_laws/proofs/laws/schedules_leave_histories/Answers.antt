use Rattle.cmwq_schedule_laws.proofs.Leaving.{schedules_leave}
use Rattle.cmwq_schedule_laws.proofs.laws.schedules_leave_histories.Goals as goal

pub returns : goal.returns
returns c = schedules_leave
