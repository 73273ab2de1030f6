use Rattle.cmwq_alike.proofs.Made.{answers_alike}
use Rattle.cmwq_alike.proofs.alike.answers_are_alike.Goals as goal

pub returns : goal.returns
returns c = answers_alike
