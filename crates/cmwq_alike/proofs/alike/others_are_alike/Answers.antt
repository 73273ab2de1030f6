use Rattle.cmwq_alike.proofs.Examples.{others_are_alike}
use Rattle.cmwq_alike.proofs.alike.others_are_alike.Goals as goal

pub returns : goal.returns
returns c = others_are_alike
