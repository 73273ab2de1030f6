use Rattle.std.proofs.Common.{sym}
use Rattle.cmwq_cmd_explore.proofs.explore.script_of.Goals as goal

pub returns-in-Ok : goal.returns-in-Ok
returns-in-Ok c = sym (rw c.in-Ok.is at c.in_ok-script.ensures.says)
