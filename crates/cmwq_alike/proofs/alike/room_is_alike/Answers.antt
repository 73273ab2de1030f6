use Rattle.cmwq_alike.proofs.Made.{owed_alike, room_alike}
use Rattle.cmwq_alike.proofs.alike.room_is_alike.Goals as goal

pub returns : goal.returns
returns c = assumption (owed_alike, room_alike)
