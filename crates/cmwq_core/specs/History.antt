-- What callers see of a book: its history with the shape and the room, and what one more call makes of it.
use Rattle.std.specs.Prelude.{◌≡◌, ◌+◌, ◌&&◌, if◌then◌else◌, ◌∷◌, nat_le}
use Rattle.cmwq_model.specs.Prelude.{has_time, queued_at, room_needed}
use Rattle.cmwq_core.specs.Common.{booking}
use Rattle.cmwq_model.specs.declared.record.Booking.{Booking}
use Rattle.cmwq_core.specs.Common.{ℕ, Bool, false, not, List, find, Option, Some, option_map, is_some, option_map_or}
use Rattle.cmwq_core.specs.Common.{ItemId, Who, Call, Entry, Queueing, Ticket, is_at, number_started, queueing_at}
use Rattle.cmwq_core.specs.Common.{unended_tickets, waits_for, entry_for, bits, has_room, item_marked}
use Rattle.cmwq_model.specs.declared.entry.Mark.{Mark}
pub use Rattle.cmwq_state.specs.History.{History, past_in, with_entry, ticket_has_number}
pub use Rattle.cmwq_state.specs.Tables.{IsThere}

-- the entry that a call gets, and whether there is room for it
abbrev pub next_entry : History → Who → Call → Entry
next_entry h who call = entry_for h.layout (past_in h) who call

abbrev pub takes : History → Who → Call → Bool
takes h who call = has_room h.layout h.room (past_in h) who call

-- and whether there is room for it and for so many entries more
abbrev pub takes_with : History → Who → Call → ℕ → Bool
takes_with h who call more =
    has_time (past_in h) call && nat_le (room_needed h.layout (next_entry h who call ∷ past_in h) + more) h.room

-- what is opened of a booked item, if it is fired or flushed now
abbrev pub queued_of_booked : List Entry → ℕ → Option Queueing
queued_of_booked past i = option_map (λ (b : Booking). queued_at past i b.place) (booking past i)

-- A mark names the item of its entry, or that of the queueing that its entry starts or finishes.
abbrev pub item_named : Mark → Option ℕ
item_named m = option_map (λ (item : ItemId). item.0) m.item

-- this is the item of the queueing with number n
pub record IsItemOf (past : List Entry) (n : ℕ) (item : Option ItemId) : Type 0 where
  pub queueing : Queueing
  pub is_known : queueing_at past n ≡ Some queueing
  pub is_its : item ≡ Some queueing.item

-- It says the bits of each item after its entry: of the item that it names those that stand there, of each other item
-- the old ones.
abbrev pub mark_names : Mark → ℕ → Bool
mark_names m i = is_at (item_named m) i

abbrev pub bits_after : Mark → List Entry → ℕ → ℕ
bits_after m past i = if mark_names m i then m.bits else bits past i

pub record IsMark (h : History) (who : Who) (call : Call) (m : Mark) : Type 0 where
  pub is_next : m.entry ≡ next_entry h who call
  pub item_is : item_named m ≡ item_marked (past_in h) m.entry
  pub starts : (n : ℕ) → number_started m.entry.reply ≡ Some n → IsItemOf (past_in h) n m.item
  pub bits_are : (i : ℕ) → bits (m.entry ∷ past_in h) i ≡ bits_after m (past_in h) i

-- an unended ticket has this number, and waits for nothing
abbrev pub is_done_waiting : List Entry → Ticket → Bool
is_done_waiting past t = not (is_some (waits_for past t.number t.call))

abbrev pub is_ready : List Entry → ℕ → Bool
is_ready past n = option_map_or (is_done_waiting past) (find (ticket_has_number n) (unended_tickets past)) false
