-- Flushes that are served, by age.
use Rattle.std.specs.Prelude.{◌≡◌, ◌≢◌, ◌<◌, ◌==◌}
use Rattle.cmwq_flush.specs.Common.{ℕ, Bool, not, List, length, All, map, nat_lt, HoldsAt, position_or_len}
use Rattle.cmwq_flush.specs.declared.served.Served.{Served}

abbrev pub ticket_of_served : Served → ℕ
ticket_of_served s = s.ticket

abbrev pub tickets_of_served : List Served → List ℕ
tickets_of_served served = map ticket_of_served served

abbrev pub bound_of : Served → ℕ
bound_of s = s.bound

abbrev pub has_ticket : ℕ → Served → Bool
has_ticket t s = s.ticket == t

abbrev pub is_other_flush : ℕ → Served → Bool
is_other_flush t s = not (s.ticket == t)

abbrev pub IsOlderServed : Served → Served → Type 0
IsOlderServed r s = r.ticket < s.ticket

abbrev pub HasTicketAt : List Served → ℕ → ℕ → Type 0
HasTicketAt served t i = (i < length served) × HoldsAt (λ s. s.ticket ≡ t) served i

abbrev pub LacksTicket : List Served → ℕ → Type 0
LacksTicket served t = All (λ s. s.ticket ≢ t) served

-- a flush waits for the queueings below its bound
abbrev pub served_waits_for : ℕ → Served → Bool
served_waits_for n s = nat_lt n s.bound

-- the place of the first flush that was served after n was opened, or that of the next to be served
abbrev pub first_waiting : List Served → ℕ → ℕ
first_waiting served n = position_or_len (served_waits_for n) served
