use Rattle.std.proofs.Common.{[], arith}
use Rattle.std.proofs.lemmas.List.{ext_get_or}
use Rattle.cmwq_ticket.proofs.tickets.copy_rows.Goals as goal

pub returns : goal.returns
returns c =
    ext_get_or [] c.loop-caller.rows c.args.others.now (omega (arith, c.requires.many, c.loop-caller.auto.rows))
    (λ r low. c.loop-caller.invariant r (omega (arith, low)))
