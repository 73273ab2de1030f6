-- What the tickets of all callers keep true of their parts: the rows, the counts beside them, and how many there are.
use Rattle.std.specs.Prelude.{◌≡◌, ◌<◌}
use Rattle.cmwq_ticket.specs.Common.{ℕ, List, length, All, Ticket}
use Rattle.cmwq_ticket.specs.Counts.{AreExact, AreSized, TicketCounts}
use Rattle.cmwq_ticket.specs.Rows.{IsRow, count, tickets_of_caller}
use Rattle.cmwq_ticket.specs.Waits.{AreOfCaller}

pub record AreKept (items queues : ℕ) (rows : List (List Ticket)) (counts : TicketCounts) (len : ℕ) : Type 0 where
  pub few : length rows < 256
  pub in_order : All IsRow rows
  pub own : (c : ℕ) → AreOfCaller c (tickets_of_caller rows c)
  pub sized : AreSized items queues counts
  pub exact : AreExact counts rows
  pub all : len ≡ count rows
