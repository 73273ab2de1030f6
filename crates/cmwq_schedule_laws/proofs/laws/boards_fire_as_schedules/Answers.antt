use Rattle.cmwq_schedule_laws.proofs.Firing.{boards_fire}
use Rattle.cmwq_schedule_laws.proofs.laws.boards_fire_as_schedules.Goals as goal

pub returns : goal.returns
returns c = boards_fire
