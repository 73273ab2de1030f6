-- The queueings in flight refine a history: of each item the one that runs, and the one that hasn't started.
use Rattle.std.specs.Prelude.{◌≡◌, ◌<◌, if◌then◌else◌, ◌∷◌}
use Rattle.cmwq_refinement.specs.Common.{ℕ, true, List, [], length, map, replicate, Option, Some, None, is_some, IsSome}
use Rattle.cmwq_refinement.specs.Common.{option_map, option_and_then, range_with_len, WorkerId, Reply, Entry, Queueing}
use Rattle.cmwq_refinement.specs.Common.{Start, Layout, number_started, number_finished, run, item_run, item_runs}
use Rattle.cmwq_refinement.specs.Common.{opening, unstarted_queueing, queueing_at, still_open, IsLegal, ending, Flight}
use Rattle.cmwq_refinement.specs.Common.{no_flight, flight_at, open_count, flights_with_open, flights_without_open}
use Rattle.cmwq_refinement.specs.Common.{flights_with_run}
use Rattle.cmwq_inflight.specs.Flights.{flights_without_run}
use Rattle.cmwq_refinement.specs.ByNumber.{number_of_queueing}

-- what is in flight of an item
abbrev pub queueing_started : List Entry → Option Start → Option Queueing
queueing_started past o = option_and_then (λ (start : Start). queueing_at past start.number) o

abbrev pub flight_of : List Entry → ℕ → Flight
flight_of past i = record { run = queueing_started past (item_run past i); unstarted = unstarted_queueing past i }

-- the flights of a history: a row for each item
abbrev pub flights_of : Layout → List Entry → List Flight
flights_of s past = map (flight_of past) (range_with_len 0 s.items)

-- the queueing that an entry starts
abbrev pub starting : List Entry → Entry → Option Queueing
starting past e = option_and_then (queueing_at past) (number_started e.reply)

-- the flights after a queueing ended, which is a run if the reply says finished, after one starts, and after one was
-- opened
abbrev pub flights_after_end : Reply → Option Queueing → List Flight → List Flight
flights_after_end r None flights = flights
flights_after_end r (Some x) flights = if is_some (number_finished r) then flights_without_run flights x.item.0
    else flights_without_open flights x.item.0

abbrev pub flights_after_start : Option Queueing → List Flight → List Flight
flights_after_start None flights = flights
flights_after_start (Some x) flights = flights_with_run flights x.item.0

abbrev pub flights_after_opening : Option Queueing → List Flight → List Flight
flights_after_opening None flights = flights
flights_after_opening (Some x) flights = flights_with_open flights x

abbrev pub flights_after_moves : List Entry → Entry → List Flight → List Flight
flights_after_moves past e flights =
    flights_after_start (starting past e) (flights_after_end e.reply (ending past e) flights)

abbrev pub flights_after : List Entry → Entry → List Flight → List Flight
flights_after past e flights = flights_after_opening (opening past e) (flights_after_moves past e flights)

-- at first nothing is in flight, and each entry's calls make the flights those of the longer history
abbrev pub NoFlightsAtFirst : Type 0
NoFlightsAtFirst = (s : Layout) → flights_of s [] ≡ replicate s.items no_flight

abbrev pub FlightsRefine : Type 0
FlightsRefine = (s : Layout) (past : List Entry) (e : Entry) → IsLegal s (e ∷ past)
    → flights_of s (e ∷ past) ≡ flights_after past e (flights_of s past)

-- there is a row for each item, so that the flights may be asked for it, and what they answer is what the definitions
-- say
abbrev pub FlightsForItems : Type 0
FlightsForItems = (s : Layout) (past : List Entry) → length (flights_of s past) ≡ s.items

pub record IsFlightOf (past : List Entry) (i : ℕ) (f : Flight) : Type 0 where
  pub run : f.run ≡ queueing_started past (item_run past i)
  pub run_number : option_map number_of_queueing f.run ≡ option_map (λ (start : Start). start.number) (item_run past i)
  pub runs : is_some f.run ≡ item_runs past i
  pub unstarted : f.unstarted ≡ unstarted_queueing past i

abbrev pub FlightsAreOfItems : Type 0
FlightsAreOfItems = (s : Layout) (past : List Entry) (i : ℕ) → IsLegal s past → i < s.items
    → IsFlightOf past i (flight_at (flights_of s past) i)

abbrev pub OpenAreInFlight : Type 0
OpenAreInFlight = (s : Layout) (past : List Entry) → IsLegal s past
    → open_count (flights_of s past) ≡ length (still_open past)

-- what a worker runs is the run of its item, and what an entry starts is the unstarted queueing of its item
abbrev pub WorkersRunFlights : Type 0
WorkersRunFlights = (s : Layout) (past : List Entry) (w : WorkerId) (n : ℕ) (x : Queueing) → IsLegal s past
    → run past w ≡ Some n → queueing_at past n ≡ Some x
    → (x.item.0 < s.items) × ((flight_at (flights_of s past) x.item.0).run ≡ Some x)

abbrev pub StartsAreUnstarted : Type 0
StartsAreUnstarted = (s : Layout) (past : List Entry) (e : Entry) (x : Queueing) → IsLegal s (e ∷ past)
    → starting past e ≡ Some x
    → (x.item.0 < s.items) × ((flight_at (flights_of s past) x.item.0).unstarted ≡ Some x)

-- each call that applies an entry to the flights may be made where it is made: what the call requires holds
pub record MayEndOf (r : Reply) (x : Queueing) (flights : List Flight) : Type 0 where
  pub known : x.item.0 < length flights
  pub runs : is_some (number_finished r) ≡ true → IsSome (flight_at flights x.item.0).run

pub record MayStartOf (x : Queueing) (flights : List Flight) : Type 0 where
  pub free : (flight_at flights x.item.0).run ≡ None
  pub unstarted : IsSome (flight_at flights x.item.0).unstarted

pub record MayOpenOf (x : Queueing) (flights : List Flight) : Type 0 where
  pub known : x.item.0 < length flights
  pub none : (flight_at flights x.item.0).unstarted ≡ None

abbrev pub MayEndInFlight : Reply → Option Queueing → List Flight → Type 0
MayEndInFlight r None flights = Unit {0}
MayEndInFlight r (Some x) flights = MayEndOf r x flights

abbrev pub MayStartInFlight : Option Queueing → List Flight → Type 0
MayStartInFlight None flights = Unit {0}
MayStartInFlight (Some x) flights = MayStartOf x flights

abbrev pub MayOpenInFlight : Option Queueing → List Flight → Type 0
MayOpenInFlight None flights = Unit {0}
MayOpenInFlight (Some x) flights = MayOpenOf x flights

pub record MayApplyToFlights (past : List Entry) (e : Entry) (flights : List Flight) : Type 0 where
  pub ended : MayEndInFlight e.reply (ending past e) flights
  pub started : MayStartInFlight (starting past e) (flights_after_end e.reply (ending past e) flights)
  pub opened : MayOpenInFlight (opening past e) (flights_after_moves past e flights)

-- so it is in a legal history
abbrev pub EntriesApplyToFlights : Type 0
EntriesApplyToFlights = (s : Layout) (past : List Entry) (e : Entry) → IsLegal s (e ∷ past)
    → MayApplyToFlights past e (flights_of s past)
