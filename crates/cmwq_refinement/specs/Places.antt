-- What is opened and what is waited for is of items, queues and CPUs that the layout has, so that an entry can be
-- applied to the parts.
use Rattle.std.specs.Prelude.{◌≡◌, ◌<◌, ◌∷◌}
use Rattle.cmwq_refinement.specs.Common.{true, List, length, Some, Contains, Entry, Queueing, Ticket, Layout}
use Rattle.cmwq_refinement.specs.Common.{has_numbers, still_open, opening, unended_tickets, IsLegal}

pub record IsQueueingThere (s : Layout) (x : Queueing) : Type 0 where
  pub item : x.item.0 < s.items
  pub queue : x.place.queue.0 < length s.queues
  pub cpu : x.place.cpu.0 < s.cpus

abbrev pub OpenedAreThere : Type 0
OpenedAreThere = (s : Layout) (past : List Entry) (e : Entry) (x : Queueing) → IsLegal s (e ∷ past)
    → opening past e ≡ Some x → IsQueueingThere s x

abbrev pub OpenAreThere : Type 0
OpenAreThere = (s : Layout) (past : List Entry) (x : Queueing) → IsLegal s past → Contains (still_open past) x
    → IsQueueingThere s x

-- the numbers of an unended ticket's call are inside the layout
abbrev pub TicketsFit : Type 0
TicketsFit = (s : Layout) (past : List Entry) (t : Ticket) → IsLegal s past → Contains (unended_tickets past) t
    → has_numbers s t.call ≡ true
