use Rattle.cmwq_publish.proofs.Places.{looks}
use Rattle.cmwq_publish.proofs.reader.read.Goals as goal

pub enter_as-requires : goal.enter_as-requires
enter_as-requires g c x = looks _ _ x
