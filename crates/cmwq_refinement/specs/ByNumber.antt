-- Queueings and tickets by their numbers, as the parts keep them.
use Rattle.cmwq_refinement.specs.Common.{ℕ, List, length, Option, Entry, Ticket, Queueing, ticket_in}

abbrev pub number_of_queueing : Queueing → ℕ
number_of_queueing x = x.number

abbrev pub number_of_ticket : Ticket → ℕ
number_of_ticket t = t.number

-- the ticket that the entry gives
abbrev pub ticket_given : List Entry → Entry → Option Ticket
ticket_given past e = ticket_in e (length past)
