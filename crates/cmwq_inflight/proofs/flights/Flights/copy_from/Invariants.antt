use Rattle.std.proofs.Common.{◌≡◌, ℕ, ◌<◌, ◌≤◌, length}
use Rattle.cmwq_inflight.specs.Flights.{flight_at, no_flight}
use Rattle.cmwq_inflight.proofs.flights.Flights.copy_from.Given as goal

abbrev pub invariant-loop-number : goal.invariant-loop-number
invariant-loop-number l =
    record {
      many : length l.self ≡ length l.other;
      copied :
          (i : ℕ) → i < l.number → flight_at l.self i ≡ flight_at l.other i;
      rest : (i : ℕ) → l.number ≤ i → flight_at l.self i ≡ no_flight;
    }
