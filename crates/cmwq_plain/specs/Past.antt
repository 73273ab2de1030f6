-- Parts of a history that is seen with the newest entry first.
use Rattle.std.specs.Prelude.{◌-◌, ◌∷◌}
use Rattle.cmwq_plain.specs.Common.{ℕ, List, length, drop, filter, Option, Some, None, Entry, Queueing, queueings}
use Rattle.cmwq_plain.specs.Common.{is_live, tickets, is_unended}
use Rattle.cmwq_model.specs.declared.record.Ticket.{Ticket}

-- the first k entries
unfoldable pub upto : List Entry → ℕ → List Entry
upto past k = drop (length past - k) past

-- one entry more, if there is one
abbrev pub past_with : Option Entry → List Entry → List Entry
past_with None past = past
past_with (Some e) past = e ∷ past

-- the open queueings and the unended tickets that the first k entries made
unfoldable pub open_upto : List Entry → ℕ → List Queueing
open_upto past k = filter (is_live past) (queueings (upto past k))

unfoldable pub unended_upto : List Entry → ℕ → List Ticket
unended_upto past k = filter (is_unended past) (tickets (upto past k))
