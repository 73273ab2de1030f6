-- Of what it may be asked whether a ticket waits for a queueing.
use Rattle.std.specs.Prelude.{◌≡◌, ◌⊎◌}
use Rattle.cmwq_state.specs.Common.{List, length, Contains, Entry, Queueing, Ticket, still_open, unended_tickets}

-- the queueing is open, or has the number of the next entry
abbrev pub IsOpenOrNext : List Entry → Queueing → Type 0
IsOpenOrNext past x = Contains (still_open past) x ⊎ (x.number ≡ length past)

-- the ticket is unended, or has the number of the next entry
abbrev pub IsUnendedOrNext : List Entry → Ticket → Type 0
IsUnendedOrNext past t = Contains (unended_tickets past) t ⊎ (t.number ≡ length past)
