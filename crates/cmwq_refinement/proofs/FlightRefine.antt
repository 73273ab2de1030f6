-- The flights refine a legal history, and the calls that apply an entry to them may be made.
use Rattle.cmwq_refinement.specs.Common.{◌≡◌, ◌<◌, ℕ, false, List, [], ◌∷◌, length, map, replicate, Option, Some, None}
use Rattle.cmwq_refinement.specs.Common.{option_to_list, refl, sym, ap, ◌∙◌, arith, range_with_len, same_Some}
use Rattle.cmwq_refinement.specs.Common.{length-map-range_with_len, get_or-map-range_with_len, Entry, Queueing, Layout}
use Rattle.cmwq_refinement.specs.Common.{is_started, item_start, queueings, still_open, is_unstarted}
use Rattle.cmwq_refinement.specs.Common.{unstarted_queueing, opening, IsLegal, opening_number, is_ended, ending}
use Rattle.cmwq_refinement.specs.Common.{still_unstarted, open_go_on, unstarted_is, opening_inert, Flight, no_flight}
use Rattle.cmwq_refinement.specs.Common.{flight_at, false≢true, is_some, ◌==◌, option_or, with_unstarted, eqb-true}
use Rattle.cmwq_refinement.specs.Common.{is_left}
use Rattle.cmwq_refinement.proofs.Numbers.{In, cond_both, found, in_right, of_in, option_in, rows_alike}
use Rattle.cmwq_theory_steps.proofs.Unstarted.{unstarted_goes_on}
use Rattle.cmwq_refinement.specs.Flights.{flight_of, flights_of, starting, flights_after_end, flights_after_start}
use Rattle.cmwq_refinement.specs.Flights.{flights_after_opening, flights_after_moves, flights_after, MayEndInFlight}
use Rattle.cmwq_refinement.specs.Flights.{MayStartInFlight, MayOpenInFlight, MayApplyToFlights}
use Rattle.cmwq_refinement.proofs.TimerSteps.{same_rows}
use Rattle.cmwq_refinement.proofs.PlacesFit.{open_there, opened_are_there}
use Rattle.cmwq_refinement.proofs.FlightKinds.{EndKind, none_ends, run_ends, unstarted_ends, end_kind, legal_before}
use Rattle.cmwq_refinement.proofs.FlightKinds.{Starting, StartKind, none_starts, one_starts, start_kind}
use Rattle.cmwq_refinement.proofs.ItemNumbers.{one_of}
use Rattle.cmwq_refinement.proofs.FlightSteps.{row_ended, row_opened, ended_rows, started_rows, opened_rows, moved}
use Rattle.cmwq_refinement.proofs.FlightSteps.{moved_unstarted, moved_run}

pub flights_for_items : (s : Layout) (past : List Entry) → length (flights_of s past) ≡ s.items
flights_for_items s past = length-map-range_with_len (flight_of past) 0 s.items

pub row_of : (s : Layout) (past : List Entry) (i : ℕ) → i < s.items → flight_at (flights_of s past) i ≡ flight_of past i
row_of s past i there = get_or-map-range_with_len (flight_of past) 0 s.items i i no_flight there (omega arith)

pub no_flights_at_first : (s : Layout) → flights_of s [] ≡ replicate s.items no_flight
unfolding item_start queueings
no_flights_at_first s = rows_alike (flight_of []) no_flight s.items (λ i. refl)

module _ (s : Layout) (past : List Entry) (e : Entry) (legal : IsLegal s (e ∷ past)) where
  -- what an entry ends, starts and opens is of an item that there is
  ending_there : (x : Queueing) → ending past e ≡ Some x → x.item.0 < s.items
  ending_there x is =
      (open_there s past x (legal_before s past e legal) (found (is_ended past e) (still_open past) x is).0).item

  pub starting_is : (x : Queueing) → starting past e ≡ Some x → Starting past e x
  starting_is x is = elim (start_kind s past e legal) [
    | none_starts none unstarting ↦ let bad : None ≡ Some x = sym none ∙ is in cc
    | one_starts y one st ↦ rw (same_Some y x (sym one ∙ is)) at st
  ]

  pub starting_there : (x : Queueing) → starting past e ≡ Some x → x.item.0 < s.items
  starting_there x is =
      (open_there s past x (legal_before s past e legal)
      (found (is_unstarted past x.item.0) (still_open past) x (starting_is x is).waits).0).item

  opening_there : (x : Queueing) → opening past e ≡ Some x → x.item.0 < s.items
  opening_there x is = (opened_are_there s past e x legal is).item

  -- the flights after what ends and starts, as rows
  moved_flights : flights_after_moves past e (flights_of s past) ≡ map (moved s past e legal) (range_with_len 0 s.items)
  unfolding moved
  moved_flights =
      ap (flights_after_start (starting past e))
      (ended_rows (flight_of past) s.items e.reply (ending past e) ending_there)
      ∙ started_rows (λ j. row_ended e.reply (ending past e) j (flight_of past j)) s.items (starting past e)
      starting_there

  -- where an entry opens a queueing, no older one of the item is left unstarted
  none_left : (x u : Queueing) → opening past e ≡ Some x → unstarted_queueing past x.item.0 ≡ Some u
      → still_unstarted past e (Some u) ≡ Some u → ⊥
  none_left x u opens was still =
      let goes : unstarted_queueing (e ∷ past) x.item.0 ≡ Some u =
      rw (unstarted_goes_on s past e x.item.0 legal, was, still) refl in
      let opened_here : In x (still_open (e ∷ past)) =
      rw (open_go_on s past e legal) (in_right _ _ x (option_in (opening past e) x opens)) in
      let waits = unstarted_is (e ∷ past) x.item.0 u goes in
      let new =
      of_in (λ y. is_started (e ∷ past) y.number ≡ false) (option_to_list (opening past e)) x
      (opening_inert s past e (opening past e) legal refl) (option_in (opening past e) x opens) in
      let older_here = (found (is_unstarted (e ∷ past) x.item.0) (still_open (e ∷ past)) u goes).0 in
      let same = one_of s (e ∷ past) u x legal older_here opened_here waits.item waits.not_started new in
      absurd (omega (
        arith,
        (unstarted_is past x.item.0 u was).known.older,
        opening_number past e x opens,
        ap (λ (y : Queueing). y.number) same,
      ))

  still_none : (x : Queueing) → opening past e ≡ Some x → still_unstarted past e (unstarted_queueing past x.item.0)
      ≡ None
  still_none x opens = by (unstarted_queueing past x.item.0) refl
    where
      by : (o : Option Queueing) → unstarted_queueing past x.item.0 ≡ o → still_unstarted past e o ≡ None
      by None was = refl
      by (Some u) was =
          cond_both (is_left past e u) (Some u) None (λ o. o ≡ None)
          (λ left. absurd (none_left x u opens was (rw left refl))) (λ gone. refl)

  -- the row of each item is that of the longer history
  same_flight : (f g : Flight) → f.run ≡ g.run → f.unstarted ≡ g.unstarted → f ≡ g
  same_flight f g run waits = λ i. record { run = run i; unstarted = waits i }

  or_none : (o : Option Queueing) → o ≡ option_or o None
  or_none o = grind arith

  pub opened_row : (i : ℕ) (o : Option Queueing) → opening past e ≡ o → row_opened o i (moved s past e legal i)
      ≡ flight_of (e ∷ past) i
  unfolding row_opened
  opened_row i None opens =
      same_flight (moved s past e legal i) (flight_of (e ∷ past) i) (moved_run s past e legal i)
      (rw (moved_unstarted s past e legal i, unstarted_goes_on s past e i legal, opens) (or_none _))
  opened_row i (Some x) opens =
      let m : Flight = moved s past e legal i in
      cond_both (x.item.0 == i) (with_unstarted (Some x) m) m (λ f. f ≡ flight_of (e ∷ past) i)
      (λ same. same_flight (with_unstarted (Some x) m) (flight_of (e ∷ past) i) (moved_run s past e legal i)
      (rw (unstarted_goes_on s past e i legal, opens, same, ← eqb-true x.item.0 i same, still_none x opens) refl))
      (λ other. same_flight m (flight_of (e ∷ past) i) (moved_run s past e legal i)
      (rw (moved_unstarted s past e legal i, unstarted_goes_on s past e i legal, opens, other) (or_none _)))

  pub flights_refine : flights_of s (e ∷ past) ≡ flights_after past e (flights_of s past)
  flights_refine =
      same_rows (λ j. row_opened (opening past e) j (moved s past e legal j)) (flight_of (e ∷ past))
      (range_with_len 0 s.items) (λ j. sym (opened_row j (opening past e) refl))
      ∙ sym (ap (flights_after_opening (opening past e)) moved_flights
      ∙ opened_rows (moved s past e legal) s.items (opening past e) opening_there)

  -- ---- each call may be made

  may_end : EndKind past e → MayEndInFlight e.reply (ending past e) (flights_of s past)
  may_end (none_ends none unfinished) = rw none tt
  may_end (run_ends x one fin run) = rw one (record {
    known = rw (flights_for_items s past) (ending_there x one);
    runs = λ h. rw (row_of s past x.item.0 (ending_there x one), run.is_run, run.found) refl;
  })
  may_end (unstarted_ends x one unfinished waits) =
      rw one (record {
        known = rw (flights_for_items s past) (ending_there x one);
        runs =
            λ h. absurd (false≢true (sym (ap is_some unfinished) ∙ h));
      })

  may_start : StartKind past e
      → MayStartInFlight (starting past e) (flights_after_end e.reply (ending past e) (flights_of s past))
  may_start (none_starts none unstarting) = rw none tt
  may_start (one_starts x one st) = rw (one, st.ends_none) (record {
    free = rw (row_of s past x.item.0 (starting_there x one), st.has_none) refl;
    unstarted = rw (row_of s past x.item.0 (starting_there x one), st.waits) refl;
  })

  may_open : (o : Option Queueing) → opening past e ≡ o
      → MayOpenInFlight o (flights_after_moves past e (flights_of s past))
  may_open None opens = tt
  may_open (Some x) opens = record {
    known = rw (moved_flights, length-map-range_with_len) (opening_there x opens);
    none = ap (λ fs. (flight_at fs x.item.0).unstarted) moved_flights
        ∙ ap (λ (f : Flight). f.unstarted)
        (get_or-map-range_with_len (moved s past e legal) 0 s.items x.item.0 x.item.0 no_flight
        (opening_there x opens) (omega arith))
        ∙ moved_unstarted s past e legal x.item.0 ∙ still_none x opens;
  }

  pub entries_apply_to_flights : MayApplyToFlights past e (flights_of s past)
  entries_apply_to_flights =
      record {
        ended = may_end (end_kind s past e legal);
        started = may_start (start_kind s past e legal);
        opened =
            may_open (opening past e) refl;
      }
