use Rattle.std.proofs.Common.{◌∙◌, ap, refl, map}
use Rattle.cmwq_ticket.specs.Waits.{ticket_by}
use Rattle.cmwq_ticket.proofs.Waits.{pushed_wait}
use Rattle.cmwq_ticket.proofs.row.Row.push.Goals as goal

pub returns : goal.returns
returns c =
    rw (← c.self.view_is) (ap (map (ticket_by c.args.ticket.caller)) c.push_reserved.ensures.items
    ∙ pushed_wait c.self.inside.caller c.args.ticket _ c.self.inside.waits.items refl
    (rw (← c.self.view_is) at c.requires.own))
