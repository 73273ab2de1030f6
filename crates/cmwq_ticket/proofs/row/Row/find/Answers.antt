use Rattle.std.proofs.Common.{◌∙◌, ap, sym}
use Rattle.std.specs.Prelude.{find, option_map}
use Rattle.cmwq_ticket.specs.Waits.{is_wait_numbered, ticket_by}
use Rattle.cmwq_ticket.proofs.Waits.{find_ticket}
use Rattle.cmwq_ticket.proofs.row.Row.find.Goals as goal

pub returns-in_err-wait : goal.returns-in_err-wait
returns-in_err-wait c =
    let s = c.self.inside in
    let found = c.find_wait.ensures ∙ ap (find (is_wait_numbered c.args.number)) c.deref.ensures.value in
    rw (← c.self.view_is)
    (c.from_residual.ensures
    ∙ sym (find_ticket s.caller c.args.number s.waits.items
    ∙ ap (option_map (ticket_by s.caller)) (sym found ∙ c.in_err-wait.was)))

pub returns : goal.returns
returns c =
    let s = c.self.inside in
    let found = c.find_wait.ensures ∙ ap (find (is_wait_numbered c.args.number)) c.deref.ensures.value in
    rw (← c.self.view_is, c.ticket.ensures)
    (sym (find_ticket s.caller c.args.number s.waits.items
    ∙ ap (option_map (ticket_by s.caller)) (sym found ∙ c.in_ok-wait.was)))
