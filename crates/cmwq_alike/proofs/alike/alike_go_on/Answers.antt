use Rattle.cmwq_alike.proofs.Itself.{itself_alike}
use Rattle.cmwq_alike.proofs.Made.{calls_go_on}
use Rattle.cmwq_alike.proofs.Stays.{alike_go_on}
use Rattle.cmwq_alike.proofs.alike.alike_go_on.Goals as goal

pub returns : goal.returns
returns c = assumption (alike_go_on, calls_go_on, itself_alike)
