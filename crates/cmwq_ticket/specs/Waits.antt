-- How a caller's tickets are kept: each without its caller, who is the same for all.
use Rattle.std.specs.Prelude.{◌≡◌, ◌==◌}
use Rattle.cmwq_model.specs.declared.id.CallerId.{CallerId}
use Rattle.cmwq_ticket.specs.Common.{ℕ, Bool, not, List, All, Ticket}
use Rattle.cmwq_ticket.specs.declared.row.Wait.{Wait}

abbrev pub ticket_by : CallerId → Wait → Ticket
ticket_by c w = record { caller = c; call = w.call; number = w.number }

abbrev pub is_wait_numbered : ℕ → Wait → Bool
is_wait_numbered n w = w.number == n

abbrev pub is_other_wait : ℕ → Wait → Bool
is_other_wait n w = not (is_wait_numbered n w)

-- all are this caller's
abbrev pub AreOfCaller : ℕ → List Ticket → Type 0
AreOfCaller c row = All (λ (t : Ticket). t.caller.0 ≡ c) row
