use Rattle.std.proofs.Common.{sym}
use Rattle.cmwq_summary.specs.TicketWaits.{by_ticket_ended, ended_wait}
use Rattle.cmwq_summary.proofs.TicketTimes.{none_given}
use Rattle.cmwq_summary.proofs.WaitTables.{none_waited}
use Rattle.cmwq_summary.proofs.ticket_waits.TicketWaits.new.Goals as goal

pub returns : goal.returns
returns c = record {
  waits = rw (c.in_ok-waits.ensures, c.keys.ensures)
      (none_waited by_ticket_ended ended_wait c.args.shape.now.callers);
  givings = rw (c.in_ok-givings.ensures, c.keys-2.ensures) (sym (none_given c.args.shape.now));
}
