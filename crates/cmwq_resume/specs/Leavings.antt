-- What of each item a history leaves, and the requests to leave out a run.
use Rattle.std.specs.Prelude.{◌≡◌, ◌+◌, ◌<◌, ◌≤◌, ◌⊎◌, if◌then◌else◌, ◌||◌, slice_index_or, option_and_then}
use Rattle.cmwq_resume.specs.Common.{ℕ, Bool, false, not, List, Option, None, Some, AllByRecursion, Call, Entry}
use Rattle.cmwq_resume.specs.Common.{Queueing, Booking, is_pending, booking}
use Rattle.cmwq_model.specs.Prelude.{greatest, is_cancelling}
use Rattle.cmwq_model.specs.declared.call.Call.TheVariants as call
use Rattle.cmwq_state.specs.Flights.{run_open}
use Rattle.cmwq_resume.specs.Resume.{is_due, is_later, later_call, left_at}

-- the runs of an item are had again, unless its flag says that they are to be left out
abbrev pub is_again : List Bool → ℕ → Bool
is_again left_out i = not (slice_index_or left_out i false)

-- of an item: its run that was broken off, what is booked and due, and what is booked for later
abbrev pub broken_off_of : (ℕ → Bool) → List Entry → ℕ → Option Queueing
broken_off_of again past i =
    if is_pending past i || (is_cancelling past i || not (again i)) then None else run_open past i

abbrev pub chosen : (Booking → Bool) → Booking → Option Booking
chosen p b = if p b then Some b else None

abbrev pub booked_if : (Booking → Bool) → List Entry → ℕ → Option Booking
booked_if p past i = option_and_then (chosen p) (booking past i)

abbrev pub overdue_of : List Entry → ℕ → Option Booking
overdue_of past i = booked_if (is_due past) past i

abbrev pub later_of : List Entry → ℕ → Option Booking
later_of past i = booked_if (is_later past) past i

-- the ticks of a call are in the range of their type, as those of each call that code makes
abbrev pub HasTicks : Call → Type 0
HasTicks (call.Delay i q c ticks) = ticks ≤ greatest
HasTicks (call.Modify i q c ticks) = ticks ≤ greatest
HasTicks c = Unit {0}

abbrev pub HaveTicks : List Entry → Type 0
HaveTicks past = AllByRecursion (λ (e : Entry). HasTicks e.call) past

-- one booking would not fire after another
abbrev pub IsNoLater : Booking → Booking → Type 0
IsNoLater a b = (a.due < b.due) ⊎ ((a.due ≡ b.due) × (a.number ≤ b.number))

-- a booking is for later, and not for so late that its ticks are out of range
abbrev pub IsWithin : ℕ → Booking → Type 0
IsWithin time b = (time ≤ b.due) × (b.due ≤ time + greatest)

-- the call of a booking by the ticks that are left
abbrev pub later_after : ℕ → Booking → Call
later_after time b = later_call (left_at time b)
