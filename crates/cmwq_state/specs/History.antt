-- What callers see of a state: its history, with the shape and the room.
use Rattle.std.specs.Prelude.{◌==◌, ◌∷◌, ◌++◌}
use Rattle.cmwq_state.specs.Common.{ℕ, Bool, List, [], Entry, Ticket, Layout, past_of}

-- the entries stand with the oldest first
pub record History : Type 0 where
  pub layout : Layout
  pub room : ℕ
  pub entries : List Entry

abbrev pub past_in : History → List Entry
past_in h = past_of h.entries

abbrev pub with_entry : History → Entry → History
with_entry h e = record h { entries = h.entries ++ e ∷ [] }

-- a ticket has this number
abbrev pub ticket_has_number : ℕ → Ticket → Bool
ticket_has_number n t = t.number == n
