-- What has a number that matters: what is open, unended or booked; and the ranks of these numbers.
use Rattle.std.specs.Prelude.{ℕ, suc, Bool, List, ◌++◌, map, count_by, nat_lt, Option, Some, None, option_to_list}
use Rattle.std.specs.List.{flat_map, range_with_len}
use Rattle.cmwq_model.specs.Prelude.{Layout, booking, number_booked, unended_tickets, unstarted_queueing}
use Rattle.cmwq_model.specs.declared.entry.Entry.{Entry}
use Rattle.cmwq_model.specs.declared.record.Booking.{Booking}
use Rattle.cmwq_model.specs.declared.record.Queueing.{Queueing}
use Rattle.cmwq_model.specs.declared.record.Ticket.{Ticket}
use Rattle.cmwq_refinement.specs.Tickets.{tickets_held}
use Rattle.cmwq_state.specs.Flights.{run_open}

-- what the first so many have: each at most one
abbrev pub each_of : {A : Type 0} → (ℕ → Option A) → ℕ → List A
each_of of count = flat_map (λ k. option_to_list (of k)) (range_with_len 0 count)

-- the open queueings that haven't started, those that run, and the bookings that stand, by their items
abbrev pub unstarted_in : Layout → List Entry → List Queueing
unstarted_in s past = each_of (unstarted_queueing past) s.items

abbrev pub running_in : Layout → List Entry → List Queueing
running_in s past = each_of (run_open past) s.items

abbrev pub booked_in : Layout → List Entry → List Booking
booked_in s past = each_of (booking past) s.items

-- the unended tickets, by their callers
abbrev pub tickets_of : List Entry → ℕ → List Ticket
tickets_of past callers = flat_map (tickets_held (unended_tickets past)) (range_with_len 0 callers)

abbrev pub tickets_in : Layout → List Entry → List Ticket
tickets_in s past = tickets_of past s.callers

-- their numbers: of what is open or unended, and of what is booked
abbrev pub number_of : Queueing → ℕ
number_of x = x.number

abbrev pub ticket_number : Ticket → ℕ
ticket_number t = t.number

abbrev pub numbers_of : List Queueing → List Queueing → List Ticket → List ℕ
numbers_of unstarted running tickets =
    map number_of unstarted ++ map number_of running ++ map ticket_number tickets

abbrev pub booked_numbers : List Booking → List ℕ
booked_numbers bookings = map number_booked bookings

pub record Gathered : Type 0 where
  pub unstarted : List Queueing
  pub running : List Queueing
  pub tickets : List Ticket
  pub bookings : List Booking
  pub numbers : List ℕ
  pub booked : List ℕ

unfoldable pub gathered : Layout → List Entry → Gathered
gathered s past =
    record {
      unstarted = unstarted_in s past;
      running = running_in s past;
      tickets = tickets_in s past;
      bookings = booked_in s past;
      numbers = numbers_of (unstarted_in s past) (running_in s past) (tickets_in s past);
      booked = booked_numbers (booked_in s past);
    }

-- how many of the numbers are less than this one
abbrev pub is_below : ℕ → ℕ → Bool
is_below n m = nat_lt m n

abbrev pub rank : List ℕ → ℕ → ℕ
rank numbers n = count_by (is_below n) numbers

-- one more than the rank of a number that there may be, and 0 if there is none
abbrev pub mark : List ℕ → Option ℕ → ℕ
mark numbers None = 0
mark numbers (Some n) = suc (rank numbers n)
