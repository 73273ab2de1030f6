-- Delayed items: which are booked on a timer, for when, and which is due first.
use Rattle.std.specs.Prelude.{ℕ, Bool, true, false, ◌&&◌, if◌then◌else◌, List, [], ◌∷◌, ◌++◌, length, filter, Option}
use Rattle.std.specs.Prelude.{Some, None, option_map, option_and_then, option_to_list, is_some}
use Rattle.cmwq_model.specs.declared.call.Call.{Call}
use Rattle.cmwq_model.specs.declared.call.Call.TheVariants as call
use Rattle.cmwq_model.specs.declared.reply.Reply.{Reply}
use Rattle.cmwq_model.specs.declared.reply.Reply.TheVariants as reply
use Rattle.cmwq_model.specs.declared.entry.Entry.{Entry}
use Rattle.cmwq_model.specs.declared.record.Booking.{Booking}
use Rattle.cmwq_model.specs.Calls.{is_at, is_of_item}

-- an answer after which the item is booked anew, or no more
abbrev pub settles : Reply → Bool
settles (reply.Yes k) = true
settles (reply.Booked d) = true
settles (reply.Again k) = true
settles (reply.Rebooked d) = true
settles reply.Unbooked = true
settles (reply.Fired i k) = true
settles (reply.TicketQueued k) = true
settles (reply.TicketUnbooked k) = true
settles r = false

-- the answer to a fire where nothing is due
abbrev pub is_nothing : Reply → Bool
is_nothing reply.Nothing = true
is_nothing r = false

abbrev pub due_in : Reply → Option ℕ
due_in (reply.Booked d) = Some d
due_in (reply.Rebooked d) = Some d
due_in r = None

-- the booking that a call makes whose entry has number n and answers that it is due then
abbrev pub booked_by : Call → ℕ → ℕ → Option Booking
booked_by (call.Delay i q c t) n due =
    Some (record { item = i; place = record { queue = q; cpu = c }; due = due; number = n })
booked_by (call.Modify i q c t) n due =
    Some (record { item = i; place = record { queue = q; cpu = c }; due = due; number = n })
booked_by c n due = None

abbrev pub booking_of : Entry → ℕ → Option Booking
booking_of e n = option_and_then (booked_by e.call n) (due_in e.reply)

-- the item's booking: what its last entry that settles it made
unfoldable pub booking : List Entry → ℕ → Option Booking
booking [] i = None
booking (e ∷ past) i = if settles e.reply && is_of_item i e then booking_of e (length past) else booking past i

abbrev pub is_booked : List Entry → ℕ → Bool
is_booked past i = is_some (booking past i)

-- all bookings that were ever made, in order, and those that stand
unfoldable pub bookings : List Entry → List Booking
bookings [] = []
bookings (e ∷ past) = bookings past ++ option_to_list (booking_of e (length past))

abbrev pub number_booked : Booking → ℕ
number_booked b = b.number

abbrev pub stands : List Entry → Booking → Bool
stands past b = is_at (option_map number_booked (booking past b.item.0)) b.number

abbrev pub standing_bookings : List Entry → List Booking
standing_bookings past = filter (stands past) (bookings past)
