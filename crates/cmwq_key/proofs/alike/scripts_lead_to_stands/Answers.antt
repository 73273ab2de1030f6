use Rattle.cmwq_key.proofs.AlikeItself.{first_is_stand, schedules_lead}
use Rattle.cmwq_key.proofs.Reading.{read_runs_name_none}
use Rattle.cmwq_key.proofs.Staying.{schedules_add, schedules_keep}
use Rattle.cmwq_key.proofs.alike.scripts_lead_to_stands.Goals as goal

pub returns : goal.returns
returns c = assumption (read_runs_name_none, first_is_stand, schedules_lead, schedules_keep, schedules_add)
