use Rattle.std.proofs.Common.{◌∙◌}
use Rattle.cmwq_plain.proofs.Steps.{waits_other}
use Rattle.cmwq_plain.proofs.wait.waits_for.Goals as goal

pub returns-in_default : goal.returns-in_default
returns-in_default c =
    c.least_waited.ensures ∙ waits_other c.args.past.now c.args.number c.args.call c.in_default.not-CancelSync
