use Rattle.cmwq_refinement.proofs.FlightRefine.{no_flights_at_first, flights_refine, flights_for_items}
use Rattle.cmwq_refinement.proofs.FlightRefine.{entries_apply_to_flights}
use Rattle.cmwq_refinement.proofs.FlightReads.{flights_are_of_items, open_are_in_flight, workers_run_flights}
use Rattle.cmwq_refinement.proofs.FlightReads.{starts_are_unstarted}
use Rattle.cmwq_refinement.proofs.flights.flights_refine.Goals as goal

pub returns : goal.returns
returns c =
    assumption (
      no_flights_at_first,
      flights_refine,
      flights_for_items,
      flights_are_of_items,
      open_are_in_flight,
      workers_run_flights,
      starts_are_unstarted,
      entries_apply_to_flights,
    )
