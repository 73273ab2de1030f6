use Rattle.cmwq_schedule_laws.proofs.Counted.{left_out_told}
use Rattle.cmwq_schedule_laws.proofs.laws.histories_tell_calls_left_out.Goals as goal

pub returns : goal.returns
returns c = left_out_told
