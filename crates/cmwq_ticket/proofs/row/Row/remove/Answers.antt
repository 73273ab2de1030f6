use Rattle.std.proofs.Common.{◌∙◌, ap, map}
use Rattle.cmwq_ticket.specs.Waits.{ticket_by}
use Rattle.cmwq_ticket.proofs.Waits.{without_wait}
use Rattle.cmwq_ticket.proofs.row.Row.remove.Goals as goal

pub returns : goal.returns
returns c =
    let s = c.self.inside in
    rw (← c.self.view_is) (ap (map (ticket_by s.caller)) c.remove_wait.ensures.rest
    ∙ without_wait s.caller c.args.number s.waits.items)
