-- The flights refine a history, row by row.
use Rattle.cmwq_refinement.specs.Common.{◌≡◌, ◌≢◌, ◌<◌, ◌==◌, ℕ, Bool, true, false, not, List, ◌∷◌, map, Option, Some}
use Rattle.cmwq_refinement.specs.Common.{None, refl, sym, ap, ◌∙◌, arith, is_some, if◌then◌else◌, range_with_len}
use Rattle.cmwq_refinement.specs.Common.{eq-eqb, ne_eqb, same_Some, get_or-map-range_with_len, Entry, Reply, Queueing}
use Rattle.cmwq_refinement.specs.Common.{Start, Layout, number_finished, starts, item_run, start_in, still_open}
use Rattle.cmwq_refinement.specs.Common.{is_unstarted, unstarted_queueing, IsLegal, ends_run, survives, ending}
use Rattle.cmwq_refinement.specs.Common.{still_unstarted, runs_are_queueings, unstarted_is, start_of_worker}
use Rattle.cmwq_refinement.specs.Common.{starts_its_item, starts_no_item, no_start, items_run_on, found_known}
use Rattle.cmwq_refinement.specs.Common.{queueing_at-older, Flight, no_flight, flight_at, with_unstarted, with_started}
use Rattle.cmwq_refinement.specs.Common.{without_run, with_flight, flights_without_open, nat_tests, ◌&&◌}
use Rattle.cmwq_refinement.proofs.Numbers.{In, found, number_of_queueing, of_in, rises_unique}
use Rattle.cmwq_inflight.specs.Flights.{flights_without_run}
use Rattle.cmwq_refinement.specs.Flights.{queueing_started, flight_of, starting, flights_after_end, flights_after_start}
use Rattle.cmwq_refinement.specs.Flights.{flights_after_opening}
use Rattle.cmwq_refinement.proofs.TimerSteps.{set_row}
use Rattle.cmwq_refinement.proofs.QueueingSteps.{queueing_step, open_numbers_rise}
use Rattle.cmwq_refinement.proofs.QueueingSteps as queueing
use Rattle.cmwq_refinement.proofs.FlightKinds.{none_ends, run_ends, unstarted_ends, end_kind, legal_before, none_starts}
use Rattle.cmwq_refinement.proofs.FlightKinds.{one_starts, start_kind}

-- ---- what each of the calls makes of one row

unfoldable pub row_ended : Reply → Option Queueing → ℕ → Flight → Flight
row_ended r None i f = f
row_ended r (Some x) i f =
    if x.item.0 == i then (if is_some (number_finished r) then without_run f else with_unstarted None f) else f

unfoldable pub row_started : Option Queueing → ℕ → Flight → Flight
row_started None i f = f
row_started (Some x) i f = if x.item.0 == i then with_started f else f

unfoldable pub row_opened : Option Queueing → ℕ → Flight → Flight
row_opened None i f = f
row_opened (Some x) i f = if x.item.0 == i then with_unstarted (Some x) f else f

one_row : (g : ℕ → Flight) (n i : ℕ) (change : Flight → Flight) → i < n
    → with_flight change i (map g (range_with_len 0 n))
    ≡ map (λ j. if i == j then change (g j) else g j) (range_with_len 0 n)
one_row g n i change there =
    sym (set_row g (λ j. if i == j then change (g j) else g j) n i (change (flight_at (map g (range_with_len 0 n)) i))
    (ap (λ b. if b then change (g i) else g i) (eq-eqb i i refl)
    ∙ ap change (sym (get_or-map-range_with_len g 0 n i i no_flight there (omega arith))))
    (λ j differs. ap (λ b. if b then change (g j) else g j) (ne_eqb i j (λ same. differs (sym same)))))

pub ended_rows : (g : ℕ → Flight) (n : ℕ) (r : Reply) (o : Option Queueing)
    → ((x : Queueing) → o ≡ Some x → x.item.0 < n)
    → flights_after_end r o (map g (range_with_len 0 n)) ≡ map (λ j. row_ended r o j (g j)) (range_with_len 0 n)
unfolding row_ended
ended_rows g n r None there = refl
ended_rows g n r (Some x) there = by (is_some (number_finished r))
  where
    by : (b : Bool)
        → (if b then flights_without_run (map g (range_with_len 0 n)) x.item.0
        else flights_without_open (map g (range_with_len 0 n)) x.item.0)
        ≡ map (λ j. if x.item.0 == j then (if b then without_run (g j) else with_unstarted None (g j)) else g j)
        (range_with_len 0 n)
    by true = one_row g n x.item.0 without_run (there x refl)
    by false = one_row g n x.item.0 (with_unstarted None) (there x refl)

pub started_rows : (g : ℕ → Flight) (n : ℕ) (o : Option Queueing) → ((x : Queueing) → o ≡ Some x → x.item.0 < n)
    → flights_after_start o (map g (range_with_len 0 n)) ≡ map (λ j. row_started o j (g j)) (range_with_len 0 n)
unfolding row_started
started_rows g n None there = refl
started_rows g n (Some x) there = one_row g n x.item.0 with_started (there x refl)

pub opened_rows : (g : ℕ → Flight) (n : ℕ) (o : Option Queueing) → ((x : Queueing) → o ≡ Some x → x.item.0 < n)
    → flights_after_opening o (map g (range_with_len 0 n)) ≡ map (λ j. row_opened o j (g j)) (range_with_len 0 n)
unfolding row_opened
opened_rows g n None there = refl
opened_rows g n (Some x) there = one_row g n x.item.0 (with_unstarted (Some x)) (there x refl)

-- ---- what an item's unstarted queueing is after what ends and starts

module _ (s : Layout) (past : List Entry) (e : Entry) (legal : IsLegal s (e ∷ past)) where
  -- two open queueings with one number are one
  waiting_here : (i : ℕ) (x : Queueing) → unstarted_queueing past i ≡ Some x → In x (still_open past)
  waiting_here i x is = (found (is_unstarted past i) (still_open past) x is).0

  apart : (i j : ℕ) (x u : Queueing) → unstarted_queueing past j ≡ Some x → unstarted_queueing past i ≡ Some u → j ≢ i
      → (u.number == x.number) ≡ false
  apart i j x u hx hu differs = ne_eqb u.number x.number (λ same.
      let one =
      rises_unique number_of_queueing (still_open past) u x (open_numbers_rise past) (waiting_here i u hu)
      (waiting_here j x hx) same in
      differs (sym (unstarted_is past j x hx).item ∙ ap (λ (y : Queueing). y.item.0) (sym one)
      ∙ (unstarted_is past i u hu).item))

  -- whether the entry spares it
  survives_if_none : (i : ℕ) (u : Queueing) → unstarted_queueing past i ≡ Some u → ending past e ≡ None
      → survives past e u ≡ true
  survives_if_none i u hu none = elim (queueing_step s past e legal) [
    | queueing.ends_none is all ↦ of_in (λ y. survives past e y ≡ true) (still_open past) u all (waiting_here i u hu)
    | queueing.ends_one x is here all ↦ let bad : None ≡ Some x = sym none ∙ is in cc
  ]

  survives_if_one : (i : ℕ) (u x : Queueing) → unstarted_queueing past i ≡ Some u → ending past e ≡ Some x
      → survives past e u ≡ not (u.number == x.number)
  survives_if_one i u x hu one = elim (queueing_step s past e legal) [
    | queueing.ends_none is all ↦ let bad : None ≡ Some x = sym is ∙ one in cc
    | queueing.ends_one y is here all ↦
        of_in (λ w. survives past e w ≡ not (w.number == y.number)) (still_open past) u all (waiting_here i u hu)
        ∙ ap (λ (w : Queueing). not (u.number == w.number)) (same_Some y x (sym is ∙ one))
  ]

  none_left : (f : Flight) (r : Reply) (o : Option Queueing) (i : ℕ) → f.unstarted ≡ None
      → (row_ended r o i f).unstarted ≡ None
  unfolding row_ended
  none_left f r o i none = grind arith

  left_or_not : (f : Flight) (u : Queueing) (i : ℕ) → unstarted_queueing past i ≡ Some u → f.unstarted ≡ Some u
      → (row_ended e.reply (ending past e) i f).unstarted ≡ (if survives past e u then Some u else None)
  unfolding row_ended
  left_or_not f u i hu is = elim (end_kind s past e legal) [
    | none_ends none unfinished ↦ rw (none, survives_if_none i u hu none) is
    | run_ends x one fin run ↦
        rw (survives_if_one i u x hu one)
        (grind (arith, nat_tests, run.was_started, (unstarted_is past i u hu).not_started))
    | unstarted_ends x one unfinished waits ↦
        rw (survives_if_one i u x hu one) (grind (arith, nat_tests, apart i x.item.0 x u waits hu))
  ]

  gone_or_not : (f : Flight) (u : Queueing) (i : ℕ) → unstarted_queueing past i ≡ Some u
      → (row_started (starting past e) i f).unstarted ≡ (if starts u.number e then None else f.unstarted)
  unfolding row_started
  gone_or_not f u i hu = elim (start_kind s past e legal) [
    | none_starts none unstarting ↦ grind arith
    | one_starts y one st ↦ grind (arith, nat_tests, st.waits, st.number, apart y.item.0 i u y hu st.waits)
  ]

  none_gone : (f : Flight) (o : Option Queueing) (i : ℕ) → f.unstarted ≡ None → (row_started o i f).unstarted ≡ None
  unfolding row_started
  none_gone f o i none = grind arith

  unfoldable pub moved : ℕ → Flight
  moved i = row_started (starting past e) i (row_ended e.reply (ending past e) i (flight_of past i))

  pub moved_unstarted : (i : ℕ) → (moved i).unstarted ≡ still_unstarted past e (unstarted_queueing past i)
  unfolding moved
  moved_unstarted i = by (unstarted_queueing past i) refl
    where
      two : (u : Queueing) (b c : Bool) → (if c then None else if b then Some u else None)
          ≡ (if b && not c then Some u else None)
      two u b c = grind arith

      by : (o : Option Queueing) → unstarted_queueing past i ≡ o
          → (row_started (starting past e) i (row_ended e.reply (ending past e) i (flight_of past i))).unstarted
          ≡ still_unstarted past e o
      by None h =
          none_gone (row_ended e.reply (ending past e) i (flight_of past i)) (starting past e) i
          (none_left (flight_of past i) e.reply (ending past e) i h)
      by (Some u) h =
          rw (
            gone_or_not (row_ended e.reply (ending past e) i (flight_of past i)) u i h,
            left_or_not (flight_of past i) u i h h,
          ) (two u (survives past e u) (starts u.number e))

  -- ---- and what its run is

  run_kept : (i : ℕ) (o : Option Start) → item_run past i ≡ o → queueing_started (e ∷ past) o ≡ queueing_started past o
  run_kept i None is = refl
  run_kept i (Some start) is =
      let r = runs_are_queueings s past (legal_before s past e legal) i start is in
      queueing_at-older e past start.number r.queueing r.found ∙ sym r.found

  -- the run is left, unless the entry finishes it
  left_run : (i : ℕ)
      → (row_ended e.reply (ending past e) i (flight_of past i)).run
      ≡ queueing_started (e ∷ past) (if ends_run e (item_run past i) then None else item_run past i)
  unfolding row_ended
  left_run i = by (item_run past i) refl
    where
      by : (o : Option Start) → item_run past i ≡ o
          → (row_ended e.reply (ending past e) i (flight_of past i)).run
          ≡ queueing_started (e ∷ past) (if ends_run e o then None else o)
      by None is = grind (arith, end_kind s past e legal)
      by (Some start) is = elim (end_kind s past e legal) [
        | none_ends none unfinished ↦ grind (arith, run_kept i (Some start) is)
        | run_ends x one fin run ↦
            grind (
              arith,
              nat_tests,
              run_kept i (Some start) is,
              run.is_run,
              run.number,
              run.found,
              runs_are_queueings s past (legal_before s past e legal) i start is,
            )
        | unstarted_ends x one unfinished waits ↦ grind (arith, run_kept i (Some start) is)
      ]

  pub moved_run : (i : ℕ) → (moved i).run ≡ queueing_started (e ∷ past) (item_run (e ∷ past) i)
  unfolding moved row_started row_ended
  moved_run i = elim (start_kind s past e legal) [
    | none_starts none unstarting ↦
        grind (arith, left_run i, items_run_on s past e i legal, starts_no_item e past i (no_start e unstarting))
    | one_starts y one st ↦
        let start : Start = record { worker = st.worker; number = y.number } in
        let starts_it : start_in e ≡ Some start = start_of_worker e st.worker y.number st.by_worker st.number in
        let its = starts_its_item e past start i y.item.0 starts_it (found_known past y.number y st.found).item in
        grind (
          arith,
          nat_tests,
          left_run i,
          items_run_on s past e i legal,
          starts_it,
          its,
          st.waits,
          st.ends_none,
          queueing_at-older e past y.number y st.found,
        )
  ]
