use Rattle.cmwq_theory_laws.proofs.WithinRoom.{short_room}
use Rattle.cmwq_theory_laws.proofs.room.short_have_time.Goals as goal

pub returns : goal.returns
returns c = short_room
