-- The timers refine the bookings that are read off a history.
use Rattle.std.specs.Prelude.{◌≡◌, ◌<◌, if◌then◌else◌, ◌∷◌, nat_lt, slice_index}
use Rattle.cmwq_refinement.specs.Common.{ℕ, true, false, List, [], length, map, replicate, slice_set, Option, Some}
use Rattle.cmwq_refinement.specs.Common.{None, option_map, is_some, range_with_len, list_any, ItemId, Entry, Booking}
use Rattle.cmwq_refinement.specs.Common.{Layout, item_of, now, settles, booking, booking_of, standing_bookings}
use Rattle.cmwq_refinement.specs.Common.{is_draining, is_booked_on, first_due, IsLegal, Timer, due_of, NoneMayFire}
use Rattle.cmwq_refinement.specs.Common.{IsFirstToFire}
use Rattle.cmwq_timer.specs.Rows.{TimerRows, any_timer_on as booked_in_rows}

-- the timer that is set for a booking
abbrev pub timer_for : Booking → Timer
timer_for b = record { place = b.place; due = b.due; number = b.number }

-- the timers of a history: a row for each item, with the timer of its booking
abbrev pub timer_row : List Entry → ℕ → Option Timer
timer_row past i = option_map timer_for (booking past i)

abbrev pub timers_of : Layout → List Entry → TimerRows
timers_of s past = map (timer_row past) (range_with_len 0 s.items)

-- at first no item is booked
abbrev pub NoTimersAtFirst : Type 0
NoTimersAtFirst = (s : Layout) → timers_of s [] ≡ replicate s.items None

-- there is a row for each item, so that the timers may be asked for it
abbrev pub RowsForItems : Type 0
RowsForItems = (s : Layout) (past : List Entry) → length (timers_of s past) ≡ s.items

-- what is booked for an item is its due tick in the definitions
abbrev pub due_in_bookings : List Entry → ℕ → Option ℕ
due_in_bookings past i = option_map (λ (b : Booking). b.due) (booking past i)

abbrev pub TimersAreDueAsBooked : Type 0
TimersAreDueAsBooked = (s : Layout) (past : List Entry) (i : ℕ) → i < s.items
    → due_of (timers_of s past) i ≡ due_in_bookings past i

-- some item is booked on a queue exactly where a timer says so
abbrev pub TimersStandOnQueues : Type 0
TimersStandOnQueues = (s : Layout) (past : List Entry) (q : ℕ) → IsLegal s past → booked_in_rows (timers_of s past) q
    ≡ list_any (is_booked_on q) (standing_bookings past)

-- an entry that books an item is applied by Timers::book
abbrev pub BookingsSetTimers : Type 0
BookingsSetTimers = (s : Layout) (past : List Entry) (e : Entry) (b : Booking) → booking_of e (length past) ≡ Some b
    → timers_of s (e ∷ past) ≡ slice_set (timers_of s past) b.item.0 (Some (timer_for b))

-- an entry that settles an item and doesn't book it is applied by Timers::unbook
abbrev pub SettledTimersAreTakenBack : Type 0
SettledTimersAreTakenBack = (s : Layout) (past : List Entry) (e : Entry) (i : ℕ) → settles e.reply ≡ true
    → booking_of e (length past) ≡ None → item_of e ≡ Some i
    → timers_of s (e ∷ past) ≡ slice_set (timers_of s past) i None

-- any other entry changes no timer
abbrev pub OthersKeepTimers : Type 0
OthersKeepTimers = (s : Layout) (past : List Entry) (e : Entry) → settles e.reply ≡ false
    → timers_of s (e ∷ past) ≡ timers_of s past

-- so the timers of the longer history are those to which the entry is applied: what it books is booked, and else what
-- it settles is unbooked
abbrev pub timers_after_settling : Option ℕ → Option Booking → TimerRows → TimerRows
timers_after_settling o (Some b) rows = slice_set rows b.item.0 (Some (timer_for b))
timers_after_settling (Some i) None rows = slice_set rows i None
timers_after_settling None None rows = rows

abbrev pub timers_after : List Entry → Entry → TimerRows → TimerRows
timers_after past e rows = if settles e.reply then timers_after_settling (item_of e) (booking_of e (length past)) rows
    else rows

abbrev pub TimersRefine : Type 0
TimersRefine = (s : Layout) (past : List Entry) (e : Entry) → IsLegal s (e ∷ past)
    → timers_of s (e ∷ past) ≡ timers_after past e (timers_of s past)

-- in a legal history what settles is of an item that there is, and what books is for a queue that there is: so the
-- calls may be made
pub record MayApplyToTimers (s : Layout) (past : List Entry) (e : Entry) : Type 0 where
  pub of_an_item : settles e.reply ≡ true → is_some (item_of e) ≡ true
  pub item : (i : ℕ) → item_of e ≡ Some i → i < s.items
  pub queue : (b : Booking) → booking_of e (length past) ≡ Some b → b.place.queue.0 < length s.queues

abbrev pub EntriesApplyToTimers : Type 0
EntriesApplyToTimers = (s : Layout) (past : List Entry) (e : Entry) → IsLegal s (e ∷ past) → MayApplyToTimers s past e

-- so these calls may be made: what each requires holds
abbrev pub MayBeSet : Option ℕ → Option Booking → TimerRows → Type 0
MayBeSet o (Some b) rows = b.item.0 < length rows
MayBeSet (Some i) None rows = i < length rows
MayBeSet None None rows = Unit {0}

abbrev pub TimersMayBeSet : Type 0
TimersMayBeSet = (s : Layout) (past : List Entry) (e : Entry) → IsLegal s (e ∷ past)
    → MayBeSet (item_of e) (booking_of e (length past)) (timers_of s past)

-- where something holds back exactly the queues that drain, the timer that fires first is that of the booking that is
-- due first
abbrev pub HoldsDraining : Layout → List Entry → List ℕ → Type 0
HoldsDraining s past holds = (q : ℕ) → q < length s.queues → nat_lt 0 (slice_index holds q) ≡ is_draining past q

abbrev pub item_due : List Entry → Option ItemId
item_due past = option_map (λ (b : Booking). b.item) (first_due past)

abbrev pub FirstTimerIsFirstDue : Type 0
FirstTimerIsFirstDue = (s : Layout) (past : List Entry) (holds : List ℕ) (i : ItemId) → IsLegal s past
    → HoldsDraining s past holds
    → IsFirstToFire (now past) holds (timers_of s past) i.0 → item_due past ≡ Some i

abbrev pub NoTimerIsNoneDue : Type 0
NoTimerIsNoneDue = (s : Layout) (past : List Entry) (holds : List ℕ) → IsLegal s past → HoldsDraining s past holds
    → NoneMayFire (now past) holds (timers_of s past) → item_due past ≡ None
