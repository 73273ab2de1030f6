use Rattle.std.proofs.Common.{sym, ◌∙◌}
use Rattle.cmwq_ticket.proofs.Looking.{any_ticket-found, any_ticket-skipped}
use Rattle.cmwq_ticket.proofs.tickets.Tickets.any.Goals as goal

pub returns-then-is_some : goal.returns-then-is_some
returns-then-is_some c =
    let rows = c.deref-row-items.result.now in
    let found =
    any_ticket-found rows c.loop-row.row-index c.args.number c.row-item.result c.find-ticket.result
    c.loop-row-test.true c.row-item.is c.find-ticket.ensures (sym c.is_some.ensures ∙ c.if-is_some.true) in
    rw (← c.self.view_is, ← c.deref-row-items.ensures.value) (sym (c.loop-row.invariant ∙ found))

pub loop-row-preserved : goal.loop-row-preserved
loop-row-preserved c =
    let rows = c.deref-row-items.result.now in
    c.loop-row.invariant ∙ any_ticket-skipped rows c.loop-row.row-index c.args.number c.row-item.result
    c.find-ticket.result c.loop-row-test.true c.row-item.is c.find-ticket.ensures
    (sym c.is_some.ensures ∙ c.if-is_some.false)
