use Rattle.cmwq_progress_laws.proofs.Needed.{somebody_must_move}
use Rattle.cmwq_progress_laws.proofs.laws.somebody_must_move.Goals as goal

pub returns : goal.returns
returns c = somebody_must_move
