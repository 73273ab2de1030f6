use Rattle.std.proofs.Common.{arith}
use Rattle.cmwq_ticket.proofs.Upkeep.{AreKept-new}
use Rattle.cmwq_ticket.proofs.tickets.Tickets.new.Goals as goal

pub invariant_of-result : goal.invariant_of-result
invariant_of-result c =
    AreKept-new c.args.callers c.args.items c.args.queues c.in_ok-new_rows.field-0.items c.in_ok-counts.counts
    (omega arith) c.in_ok-new_rows.ensures c.in_ok-counts.ensures
