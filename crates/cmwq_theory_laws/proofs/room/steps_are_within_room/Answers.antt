use Rattle.cmwq_theory_laws.proofs.WithinRoom.{steps_within_room}
use Rattle.cmwq_theory_laws.proofs.room.steps_are_within_room.Goals as goal

pub returns : goal.returns
returns c = steps_within_room
