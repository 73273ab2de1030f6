-- The open queueings and the unended tickets of a history are those that are gathered of it.
use Rattle.std.proofs.Common.{ℕ, ◌≡◌, ◌==◌, ◌+◌, ◌<◌, ◌&&◌, Bool, true, false, not, List, [], ◌∷◌, ◌++◌, length, map}
use Rattle.std.proofs.Common.{filter, Option, Some, None, option_to_list, ap, sym, ◌∙◌, refl, arith, subst, ⊎_elim, ◌⊎◌}
use Rattle.std.proofs.Common.{inl, inr}
use Rattle.std.specs.Prelude.{option_and_then, option_map}
use Rattle.std.specs.List.{flat_map, range_with_len}
use Rattle.std.proofs.lemmas.Bool.{and_parts, eq-eqb, eqb-true}
use Rattle.std.proofs.lemmas.Option.{same_Some}
use Rattle.cmwq_lemmas.proofs.Members.{In, filter_in, flat_in, found, in_filter, in_left, in_mapped, in_option}
use Rattle.cmwq_lemmas.proofs.Members.{in_range, in_right, of_in, option_in}
use Rattle.cmwq_lemmas.proofs.Rising.{rises_unique}
use Rattle.cmwq_model.specs.Prelude.{IsLegal, Layout, booking, has_number, is_held_by, is_live, is_started, is_unended}
use Rattle.cmwq_model.specs.Prelude.{is_unstarted, item_at, item_run, number_booked, queueing_at, queueings, run}
use Rattle.cmwq_model.specs.Prelude.{still_open, tickets, unended_tickets, unstarted_queueing}
use Rattle.cmwq_model.specs.declared.entry.Entry.{Entry}
use Rattle.cmwq_model.specs.declared.record.Booking.{Booking}
use Rattle.cmwq_model.specs.declared.record.Queueing.{Queueing}
use Rattle.cmwq_model.specs.declared.record.Start.{Start}
use Rattle.cmwq_model.specs.declared.record.Ticket.{Ticket}
use Rattle.cmwq_theory_steps.proofs.EndsAsTold.{runs_are_queueings}
use Rattle.cmwq_theory_steps.proofs.Entries.{IsKnown, queueings_known}
use Rattle.cmwq_theory_steps.proofs.ItemSteps.{items_are_run}
use Rattle.cmwq_theory_steps.proofs.OneRun.{started_runs}
use Rattle.cmwq_theory_steps.proofs.Pending.{one_unstarted}
use Rattle.cmwq_theory_steps.proofs.RunsActive.{found_number}
use Rattle.cmwq_refinement.proofs.FlightKinds.{worker_runs}
use Rattle.cmwq_refinement.proofs.Numbers.{number_of_queueing, number_of_ticket}
use Rattle.cmwq_refinement.proofs.PlacesFit.{open_there}
use Rattle.cmwq_refinement.proofs.QueueingSteps.{open_numbers_rise}
use Rattle.cmwq_refinement.proofs.TicketLimits.{callers_there}
use Rattle.cmwq_refinement.specs.Tickets.{tickets_held, the_caller}
use Rattle.cmwq_state.specs.Flights.{run_open}
use Rattle.cmwq_key.specs.Numbered.{Gathered, booked_in, booked_numbers, each_of, gathered, number_of, numbers_of}
use Rattle.cmwq_key.specs.Numbered.{running_in, ticket_number, tickets_in, unstarted_in}
use Rattle.cmwq_key.proofs.Gathering.{in_each, in_rows, run_is_open, unstarted_open}

pub each_in : {A : Type 0} (f : ℕ → Option A) (n k : ℕ) (x : A) → k < n → f k ≡ Some x → In x (each_of f n)
each_in f n k x less is =
    flat_in (λ j. option_to_list (f j)) (range_with_len 0 n) k x (in_range 0 n k (omega arith) (omega arith))
    (option_in (f k) x is)

module _ (s : Layout) (past : List Entry) (legal : IsLegal s past) where
  -- ---- queueings

  pub waits_open : (x : Queueing) → In x (unstarted_in s past)
      → In x (still_open past) × (is_started past x.number ≡ false)
  waits_open x i =
      let r = in_each (unstarted_queueing past) s.items x i in
      let k = unstarted_open past r.0 x r.1 in
      let parts = and_parts (x.item.0 == r.0) (not (is_started past x.number)) k.1 in
      (k.0, by (is_started past x.number) refl parts.1)
    where
      by : (b : Bool) → is_started past x.number ≡ b → not b ≡ true → is_started past x.number ≡ false
      by true is h = cc
      by false is h = is

  pub runs_open : (x : Queueing) → In x (running_in s past)
      → In x (still_open past) × (is_started past x.number ≡ true)
  runs_open x i =
      let r = in_each (run_open past) s.items x i in
      (run_is_open s past r.0 x legal r.1, by r.0 (item_run past r.0) refl r.1)
    where
      by : (k : ℕ) (o : Option Start) → item_run past k ≡ o
          → option_and_then (λ (start : Start). queueing_at past start.number) o ≡ Some x
          → is_started past x.number ≡ true
      by k None none h = cc
      by k (Some start) is h =
          (worker_runs s past start.worker start.number x legal (items_are_run s past k start legal is).0 h).was_started

  pub open_waits : (x : Queueing) → In x (still_open past) → is_started past x.number ≡ false
      → In x (unstarted_in s past)
  open_waits x i fresh =
      let there = (open_there s past x legal i).item in
      let passes : is_unstarted past x.item.0 x ≡ true =
      ap (λ b. (x.item.0 == x.item.0) && not b) fresh ∙ ap (λ b. b && true) (eq-eqb x.item.0 x.item.0 refl) in
      let kept = filter_in (is_unstarted past x.item.0) (still_open past) x i passes in
      let is =
      in_option (unstarted_queueing past x.item.0) x
      (subst (λ xs. In x xs) (one_unstarted s past x.item.0 legal) kept) in
      each_in (unstarted_queueing past) s.items x.item.0 x there is

  known : (x : Queueing) → In x (still_open past) → item_at past x.number ≡ Some x.item.0
  known x i =
      (of_in (IsKnown past) (queueings past) x (queueings_known past)
      (in_filter (is_live past) (queueings past) x i).0).item

  -- what runs is the run of its item
  item_runs_it : (x : Queueing) → In x (still_open past) → is_started past x.number ≡ true
      → run_open past x.item.0 ≡ Some x
  item_runs_it x i started =
      by (item_run past x.item.0) refl
      (started_runs s past x.item.0 x.number legal (known x i) started
      (in_filter (is_live past) (queueings past) x i).1)
    where
      by : (o : Option Start) → item_run past x.item.0 ≡ o
          → option_map (λ (start : Start). start.number) (item_run past x.item.0) ≡ Some x.number
          → run_open past x.item.0 ≡ Some x
      by None none h = let k = rw none at h in cc
      by (Some start) is h =
          let number : start.number ≡ x.number = same_Some start.number x.number (rw is at h) in
          let r = runs_are_queueings s past legal x.item.0 start is in
          let made = (found (has_number start.number) (queueings past) r.queueing r.found).0 in
          let here = filter_in (is_live past) (queueings past) r.queueing made r.live in
          let same : r.queueing ≡ x =
          rises_unique number_of_queueing (still_open past) r.queueing x (open_numbers_rise past) here i
          (found_number past start.number r.queueing r.found ∙ number) in
          ap (λ o. option_and_then (λ (st : Start). queueing_at past st.number) o) is ∙ r.found ∙ ap Some same

  pub open_runs : (x : Queueing) → In x (still_open past) → is_started past x.number ≡ true → In x (running_in s past)
  open_runs x i started =
      each_in (run_open past) s.items x.item.0 x (open_there s past x legal i).item (item_runs_it x i started)

  -- ---- tickets

  pub tickets_unended : (t : Ticket) → In t (tickets_in s past) → In t (unended_tickets past)
  tickets_unended t i =
      let r = in_rows (tickets_held (unended_tickets past)) (range_with_len 0 s.callers) t i in
      (in_filter (is_held_by (the_caller r.0)) (unended_tickets past) t r.2).0

  pub unended_listed : (t : Ticket) → In t (unended_tickets past) → In t (tickets_in s past)
  unended_listed t i =
      let less = of_in (λ u. u.caller.0 < s.callers) (tickets past) t (callers_there s past legal)
      (in_filter (is_unended past) (tickets past) t i).0 in
      flat_in (tickets_held (unended_tickets past)) (range_with_len 0 s.callers) t.caller.0 t
      (in_range 0 s.callers t.caller.0 (omega arith) (omega arith))
      (filter_in (is_held_by (the_caller t.caller.0)) (unended_tickets past) t i (eq-eqb t.caller.0 t.caller.0 refl))

  -- ---- their numbers

  pub numbers_are : (gathered s past).numbers
      ≡ numbers_of (unstarted_in s past) (running_in s past) (tickets_in s past)
  unfolding gathered
  numbers_are = refl

  in_numbers : (n : ℕ) → In n (numbers_of (unstarted_in s past) (running_in s past) (tickets_in s past))
      → In n (gathered s past).numbers
  in_numbers n i = subst (λ ns. In n ns) (sym numbers_are) i

  pub waits_numbered : (x : Queueing) → In x (unstarted_in s past) → In x.number (gathered s past).numbers
  waits_numbered x i =
      in_numbers x.number
      (in_left (map number_of (unstarted_in s past) ++ map number_of (running_in s past)) _ x.number
      (in_left (map number_of (unstarted_in s past)) _ x.number (in_mapped number_of (unstarted_in s past) x i)))

  pub runs_numbered : (x : Queueing) → In x (running_in s past) → In x.number (gathered s past).numbers
  runs_numbered x i =
      in_numbers x.number
      (in_left (map number_of (unstarted_in s past) ++ map number_of (running_in s past)) _ x.number
      (in_right (map number_of (unstarted_in s past)) _ x.number (in_mapped number_of (running_in s past) x i)))

  pub tickets_numbered : (t : Ticket) → In t (tickets_in s past) → In t.number (gathered s past).numbers
  tickets_numbered t i =
      in_numbers t.number
      (in_right (map number_of (unstarted_in s past) ++ map number_of (running_in s past)) _ t.number
      (in_mapped ticket_number (tickets_in s past) t i))

  pub open_numbered : (x : Queueing) → In x (still_open past) → In x.number (gathered s past).numbers
  open_numbered x i = by (is_started past x.number) refl
    where
      by : (b : Bool) → is_started past x.number ≡ b → In x.number (gathered s past).numbers
      by true is = runs_numbered x (open_runs x i is)
      by false is = waits_numbered x (open_waits x i is)

  pub unended_numbered : (t : Ticket) → In t (unended_tickets past) → In t.number (gathered s past).numbers
  unended_numbered t i = tickets_numbered t (unended_listed t i)
