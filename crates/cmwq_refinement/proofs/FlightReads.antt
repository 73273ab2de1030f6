-- What the flights answer is what the definitions say.
use Rattle.cmwq_refinement.specs.Common.{◌≡◌, ◌+◌, ◌<◌, ℕ, List, [], ◌∷◌, length, map, filter, cond, Option, Some, None}
use Rattle.cmwq_refinement.specs.Common.{refl, sym, ap, ◌∙◌, arith, is_some, option_map, count_by, range_with_len}
use Rattle.cmwq_refinement.specs.Common.{sum_by, same_Some, length-map, sum_by-cons, length-filter, WorkerId, Entry}
use Rattle.cmwq_refinement.specs.Common.{Queueing, Start, Layout, run, item_run, queueings, has_number, is_live}
use Rattle.cmwq_refinement.specs.Common.{still_open, is_of, unstarted_queueing, queueing_at, IsLegal}
use Rattle.cmwq_refinement.specs.Common.{runs_are_queueings, runs_are_in_pools, found_number, Flight, flight_at}
use Rattle.cmwq_refinement.specs.Common.{has_unstarted, open_count}
use Rattle.cmwq_refinement.proofs.Numbers.{all_in, counted_by_number, filter_in, found, number_of_queueing}
use Rattle.cmwq_inflight.specs.Flights.{flight_has_run}
use Rattle.cmwq_refinement.specs.Flights.{queueing_started, flight_of, flights_of, starting, IsFlightOf}
use Rattle.cmwq_refinement.proofs.PlacesFit.{open_there}
use Rattle.cmwq_refinement.proofs.ItemNumbers.{run_then_unstarted}
use Rattle.cmwq_refinement.proofs.FlightKinds.{worker_runs}
use Rattle.cmwq_refinement.proofs.FlightRefine.{row_of, starting_is, starting_there}

-- ---- the rows

run_started : (s : Layout) (past : List Entry) (i : ℕ) (o : Option Start) → IsLegal s past → item_run past i ≡ o
    → (option_map number_of_queueing (queueing_started past o) ≡ option_map (λ (start : Start). start.number) o)
    × (is_some (queueing_started past o) ≡ is_some o)
run_started s past i None legal is = (refl, refl)
run_started s past i (Some start) legal is =
    let r = runs_are_queueings s past legal i start is in (
      ap (option_map number_of_queueing) r.found ∙ ap Some (found_number past start.number r.queueing r.found),
      ap is_some r.found,
    )

pub flights_are_of_items : (s : Layout) (past : List Entry) (i : ℕ) → IsLegal s past → i < s.items
    → IsFlightOf past i (flight_at (flights_of s past) i)
flights_are_of_items s past i legal there =
    let row = row_of s past i there in
    let k = run_started s past i (item_run past i) legal refl in
    record {
      run = ap (λ (f : Flight). f.run) row;
      run_number = ap (λ (f : Flight). option_map number_of_queueing f.run) row ∙ k.0;
      runs = ap (λ (f : Flight). is_some f.run) row ∙ k.1;
      unstarted = ap (λ (f : Flight). f.unstarted) row;
    }

-- ---- what workers run, and what is started

pub workers_run_flights : (s : Layout) (past : List Entry) (w : WorkerId) (n : ℕ) (x : Queueing) → IsLegal s past
    → run past w ≡ Some n
    → queueing_at past n ≡ Some x
    → (x.item.0 < s.items) × ((flight_at (flights_of s past) x.item.0).run ≡ Some x)
workers_run_flights s past w n x legal runs at =
    let k = worker_runs s past w n x legal runs at in
    let r = runs_are_in_pools s past w n legal runs in
    let here =
    filter_in (is_live past) (queueings past) x (found (has_number n) (queueings past) x at).0
    (rw (same_Some r.queueing x (sym r.found ∙ at)) at r.live) in
    let there = (open_there s past x legal here).item in
    (there, ap (λ (f : Flight). f.run) (row_of s past x.item.0 there) ∙ ap (queueing_started past) k.is_run ∙ k.found)

pub starts_are_unstarted : (s : Layout) (past : List Entry) (e : Entry) (x : Queueing) → IsLegal s (e ∷ past)
    → starting past e ≡ Some x
    → (x.item.0 < s.items) × ((flight_at (flights_of s past) x.item.0).unstarted ≡ Some x)
starts_are_unstarted s past e x legal is =
    let there = starting_there s past e legal x is in
    (there, ap (λ (f : Flight). f.unstarted) (row_of s past x.item.0 there) ∙ (starting_is s past e legal x is).waits)

-- ---- as many are in flight as are open

-- of one item
item_count : (s : Layout) (past : List Entry) (i : ℕ) → IsLegal s past
    → cond (is_some (queueing_started past (item_run past i))) 1 0 + cond (is_some (unstarted_queueing past i)) 1 0
    ≡ count_by (is_of i) (still_open past)
item_count s past i legal =
    grind (
      arith,
      (run_started s past i (item_run past i) legal refl).1,
      ap length (run_then_unstarted s past i legal),
      length-map (filter (is_of i) (still_open past)) number_of_queueing,
      length-filter (is_of i) (still_open past),
    )

-- of all
rows_count : (s : Layout) (past : List Entry) (is : List ℕ) → IsLegal s past
    → open_count (map (flight_of past) is) ≡ sum_by (λ i. count_by (is_of i) (still_open past)) is
rows_count s past [] legal = refl
rows_count s past (i ∷ is) legal =
    let runs = sum_by-cons (λ f. cond (flight_has_run f) 1 0) (flight_of past i) (map (flight_of past) is) in
    let waits = sum_by-cons (λ f. cond (has_unstarted f) 1 0) (flight_of past i) (map (flight_of past) is) in
    omega (
      arith,
      runs,
      waits,
      sum_by-cons (λ j. count_by (is_of j) (still_open past)) i is,
      item_count s past i legal,
      rows_count s past is legal,
    )

pub open_are_in_flight : (s : Layout) (past : List Entry) → IsLegal s past
    → open_count (flights_of s past) ≡ length (still_open past)
open_are_in_flight s past legal =
    rows_count s past (range_with_len 0 s.items) legal
    ∙ counted_by_number (λ (x : Queueing). x.item.0) s.items (still_open past)
    (all_in (λ x. x.item.0 < s.items) (still_open past) (λ x here. (open_there s past x legal here).item))
