-- What is found of each item in a state, and sorted, is what a history leaves.
use Rattle.cmwq_resume.specs.Common.{◌≡◌, ◌<◌, ◌≤◌, ◌+◌, ◌*◌, ◌&&◌, ◌||◌, ◌==◌, ℕ, suc, Bool, true, false, not}
use Rattle.cmwq_resume.specs.Common.{List, [], ◌∷◌, length, filter, Option, Some, None, refl, sym, ap, ap₂, ◌∙◌}
use Rattle.cmwq_resume.specs.Common.{subst, arith, inl, inr, if◌then◌else◌, AllByRecursion, All_each, nat_lt}
use Rattle.cmwq_resume.specs.Common.{range_with_len, option_map, option_and_then, and_parts, eq-eqb, eqb-true, ltb-true}
use Rattle.cmwq_resume.specs.Common.{nat_tests, Entry, Queueing, Booking, Layout, Start, IsLegal, is_live, is_pending}
use Rattle.cmwq_resume.specs.Common.{is_started, has_not_started, is_unstarted, unstarted_queueing, still_open}
use Rattle.cmwq_resume.specs.Common.{queueings, booking, bookings, standing_bookings, stands, number_booked, item_run}
use Rattle.std.proofs.lemmas.List.{get_or_default}
use Rattle.std.proofs.lemmas.Option.{same_Some}
use Rattle.std.proofs.Math.Nat.{mul-le-mul_left, mul-suc}
use Rattle.std.specs.Prelude.{slice_index_or}
use Rattle.std.specs.List.{AllAdjacentBelow}
use Rattle.std.specs.List.Sorted.{IsNonDecreasingBy, IsPermutation}
use Rattle.std.proofs.lemmas.List.Sorted.{IsNonDecreasingBy-from_all_adjacent}
use Rattle.cmwq_model.specs.Prelude.{has_number, is_cancelling, queueing_at}
use Rattle.cmwq_lemmas.proofs.Lists.{All_both}
use Rattle.cmwq_lemmas.proofs.Members.{In, all_in, filter_in, found, in_at, in_filter, in_option, of_in}
use Rattle.cmwq_lemmas.proofs.Rising.{RisesBy, find_is, rises_filter}
use Rattle.cmwq_refinement.proofs.FirstDue.{in_standing, standing_fits, standing_is}
use Rattle.cmwq_refinement.proofs.PlacesFit.{open_there}
use Rattle.cmwq_refinement.specs.ByNumber.{number_of_queueing}
use Rattle.cmwq_refinement.specs.Timers.{timer_for, timer_row}
use Rattle.cmwq_timer.specs.declared.timer.Timer.{Timer}
use Rattle.cmwq_state.specs.Flights.{run_open}
use Rattle.cmwq_theory_steps.proofs.EndsAsTold.{runs_are_queueings}
use Rattle.cmwq_theory_steps.proofs.Entries.{IsKnown, queueings_known}
use Rattle.cmwq_theory_steps.proofs.Fresh.{unstarted_is}
use Rattle.cmwq_theory_steps.proofs.ItemRuns.{item_run_started}
use Rattle.cmwq_theory_steps.proofs.ItemSteps.{start_is}
use Rattle.cmwq_theory_steps.proofs.OneRun.{started_runs}
use Rattle.cmwq_theory_steps.proofs.Pending.{one_unstarted}
use Rattle.cmwq_theory_steps.proofs.Rising.{queueings_rise}
use Rattle.cmwq_theory_steps.specs.Rising.{IsRising}
use Rattle.cmwq_resume.specs.Resume.{by_due, is_broken_off, is_due, is_later, put_by_due}
use Rattle.cmwq_resume.specs.Plays.{item_booked, item_queued}
use Rattle.cmwq_resume.specs.Leavings.{IsNoLater, booked_if, broken_off_of, chosen, later_of, overdue_of}
use Rattle.cmwq_resume.proofs.ByDue.{all_by_due, put_all}
use Rattle.cmwq_resume.proofs.Lost.{booking_item, in_by_due, of_by_due}
use Rattle.cmwq_resume.proofs.Sorted.{found_in, sorted_found, sorted_is}
use Rattle.cmwq_resume.proofs.Sound.{bookings_below, bookings_rise}

-- ---- queueings stand by number

rising_rises : (xs : List Queueing) → IsRising xs → RisesBy number_of_queueing xs
rising_rises [] h = tt
rising_rises (x ∷ xs) h = (h.0, rising_rises xs h.1)

all_rise : (past : List Entry) → RisesBy number_of_queueing (queueings past)
all_rise past = rising_rises (queueings past) (queueings_rise past)

kept_rise : (past : List Entry) (p : Queueing → Bool) → RisesBy number_of_queueing (filter p (still_open past))
kept_rise past p =
    rises_filter number_of_queueing p (still_open past)
    (rises_filter number_of_queueing (is_live past) (queueings past) (all_rise past))

-- a booking, of its timer
pub booking_of_timer : (past : List Entry) (i : ℕ) (t : Timer) → timer_row past i ≡ Some t
    → Some (record { item = record { 0 = i }; place = t.place; due = t.due; number = t.number }) ≡ booking past i
booking_of_timer past i t h = at (booking past i) refl h
  where
    at : (o : Option Booking) → booking past i ≡ o → option_map timer_for o ≡ Some t
        → Some (record { item = record { 0 = i }; place = t.place; due = t.due; number = t.number }) ≡ booking past i
    at None is h = cc
    at (Some b) is h =
        let same : timer_for b ≡ t = same_Some (timer_for b) t h in
        ap (λ (u : Timer).
        Some (record { item = record { 0 = i }; place = u.place; due = u.due; number = u.number })) (sym same)
        ∙ ap (λ n. Some (record { item = record { 0 = n }; place = b.place; due = b.due; number = b.number }))
        (sym (booking_item past i b is)) ∙ sym is

module _ (s : Layout) (past : List Entry) (legal : IsLegal s past) where
  -- ---- what is queued and has not started

  unstarted_of : (x : Queueing) → In x (filter (has_not_started past) (still_open past))
      → (x.item.0 < s.items) × (unstarted_queueing past x.item.0 ≡ Some x)
  unstarted_of x here =
      let k = in_filter (has_not_started past) (still_open past) x here in
      let waits = ap₂ (λ a b. a && b) (eq-eqb x.item.0 x.item.0 refl) k.1 in (
        (open_there s past x legal k.0).item,
        in_option (unstarted_queueing past x.item.0) x
            (subst (In x) (one_unstarted s past x.item.0 legal)
            (filter_in (is_unstarted past x.item.0) (still_open past) x k.0 waits)),
      )

  unstarted_to : (x : Queueing) → unstarted_queueing past x.item.0 ≡ Some x
      → In x (filter (has_not_started past) (still_open past))
  unstarted_to x is =
      let k = found (is_unstarted past x.item.0) (still_open past) x is in
      filter_in (has_not_started past) (still_open past) x k.0 (and_parts (x.item.0 == x.item.0) _ k.1).1

  pub waiting_is : (sorted : List Queueing)
      → IsPermutation (found_in (unstarted_queueing past) (range_with_len 0 s.items)) sorted
      → IsNonDecreasingBy number_of_queueing sorted → sorted ≡ filter (has_not_started past) (still_open past)
  waiting_is sorted moved up =
      sorted_is item_queued (unstarted_queueing past) (λ i x is. (unstarted_is past i x is).item) s.items sorted moved
      number_of_queueing (filter (has_not_started past) (still_open past)) up (kept_rise past (has_not_started past))
      unstarted_of unstarted_to

  -- ---- runs that were broken off

  record IsOpenRun (i : ℕ) (x : Queueing) : Type 0 where
    item : x.item.0 ≡ i
    there : In x (still_open past)
    started : is_started past x.number ≡ true

  open_run : (i : ℕ) (x : Queueing) → run_open past i ≡ Some x → IsOpenRun i x
  open_run i x h = at (item_run past i) refl h
    where
      at : (o : Option Start) → item_run past i ≡ o
          → option_and_then (λ (start : Start). queueing_at past start.number) o ≡ Some x → IsOpenRun i x
      at None is h = cc
      at (Some start) is h =
          let run = runs_are_queueings s past legal i start is in
          let same : run.queueing ≡ x = same_Some run.queueing x (sym run.found ∙ h) in
          let here = found (has_number start.number) (queueings past) x h in
          let number : x.number ≡ start.number = eqb-true x.number start.number here.1 in
          let start_of = start_is s past i start legal (item_run_started past i start is) in
          record {
            item = ap (λ (y : Queueing). y.item.0) (sym same) ∙ run.item;
            there = filter_in (is_live past) (queueings past) x here.0 (ap (is_live past) (sym same) ∙ run.live);
            started = ap (is_started past) number ∙ start_of.started;
          }

  run_is : (x : Queueing) → In x (still_open past) → is_started past x.number ≡ true
      → run_open past x.item.0 ≡ Some x
  run_is x here started = at (item_run past x.item.0) refl
      (started_runs s past x.item.0 x.number legal known.item started k.1)
    where
      k : In x (queueings past) × (is_live past x ≡ true)
      k = in_filter (is_live past) (queueings past) x here

      known : IsKnown past x
      known = of_in (IsKnown past) (queueings past) x (queueings_known past) k.0

      at : (o : Option Start) → item_run past x.item.0 ≡ o
          → option_map (λ (start : Start). start.number) o ≡ Some x.number → run_open past x.item.0 ≡ Some x
      at None is h = cc
      at (Some start) is h =
          let number : start.number ≡ x.number = same_Some start.number x.number h in
          ap (option_and_then (λ (start : Start). queueing_at past start.number)) is
          ∙ ap (queueing_at past) number
          ∙ find_is number_of_queueing (has_number x.number) (queueings past) x (all_rise past) k.0
          (eq-eqb x.number x.number refl)
          (All_each (λ y. has_number x.number y ≡ true → x.number ≤ y.number) (queueings past)
          (λ y same. omega (arith, eqb-true y.number x.number same)))

  module _ (again : ℕ → Bool) where
    record IsBrokenOff (i : ℕ) (x : Queueing) : Type 0 where
      idle : is_pending past i ≡ false
      stays : is_cancelling past i ≡ false
      chosen_again : again i ≡ true
      run : run_open past i ≡ Some x

    broken_parts : (i : ℕ) (x : Queueing) → broken_off_of again past i ≡ Some x → IsBrokenOff i x
    broken_parts i x h = at (is_pending past i) (is_cancelling past i) (again i) refl refl refl h
      where
        at : (a b c : Bool) → is_pending past i ≡ a → is_cancelling past i ≡ b → again i ≡ c
            → (if a || (b || not c) then None else run_open past i) ≡ Some x → IsBrokenOff i x
        at true b c pa pb pc h = cc
        at false true c pa pb pc h = cc
        at false false false pa pb pc h = cc
        at false false true pa pb pc h = record { idle = pa; stays = pb; chosen_again = pc; run = h }

    broken_own : (i : ℕ) (x : Queueing) → broken_off_of again past i ≡ Some x → item_queued x ≡ i
    broken_own i x h = (open_run i x (broken_parts i x h).run).item

    broken_to : (x : Queueing) → broken_off_of again past x.item.0 ≡ Some x
        → In x (filter (is_broken_off again past) (still_open past))
    broken_to x h =
        let parts = broken_parts x.item.0 x h in
        let run = open_run x.item.0 x parts.run in
        filter_in (is_broken_off again past) (still_open past) x run.there
        (ap₂ (λ a b. a && b) run.started
        (ap₂ (λ a b. not a && b) parts.idle (ap₂ (λ a b. not a && b) parts.stays parts.chosen_again)))

    broken_of : (x : Queueing) → In x (filter (is_broken_off again past) (still_open past))
        → (x.item.0 < s.items) × (broken_off_of again past x.item.0 ≡ Some x)
    broken_of x here =
        let k = in_filter (is_broken_off again past) (still_open past) x here in
        let one = and_parts (is_started past x.number) _ k.1 in
        let two = and_parts (not (is_pending past x.item.0)) _ one.1 in
        let three = and_parts (not (is_cancelling past x.item.0)) (again x.item.0) two.1 in (
          (open_there s past x legal k.0).item,
          at (is_pending past x.item.0) (is_cancelling past x.item.0) (again x.item.0) two.0 three.0 three.1
              (run_is x k.0 one.0),
        )
      where
        at : (a b c : Bool) → not a ≡ true → not b ≡ true → c ≡ true → run_open past x.item.0 ≡ Some x
            → (if a || (b || not c) then None else run_open past x.item.0) ≡ Some x
        at true b c ha hb hc is = cc
        at false true c ha hb hc is = cc
        at false false false ha hb hc is = cc
        at false false true ha hb hc is = is

    pub broken_off_is : (sorted : List Queueing)
        → IsPermutation (found_in (broken_off_of again past) (range_with_len 0 s.items)) sorted
        → IsNonDecreasingBy number_of_queueing sorted → sorted ≡ filter (is_broken_off again past) (still_open past)
    broken_off_is sorted moved up =
        sorted_is item_queued (broken_off_of again past) broken_own s.items sorted moved
        number_of_queueing (filter (is_broken_off again past) (still_open past)) up
        (kept_rise past (is_broken_off again past)) broken_of broken_to

  -- ---- what is booked

  module _ (p : Booking → Bool) where
    booked_parts : (i : ℕ) (b : Booking) → booked_if p past i ≡ Some b → (booking past i ≡ Some b) × (p b ≡ true)
    booked_parts i b h = at (booking past i) refl h
      where
        at : (o : Option Booking) → booking past i ≡ o → option_and_then (chosen p) o ≡ Some b
            → (booking past i ≡ Some b) × (p b ≡ true)
        at None is h = cc
        at (Some c) is h = if_so (p c) refl h
          where
            if_so : (x : Bool) → p c ≡ x → (if x then Some c else None) ≡ Some b
                → (booking past i ≡ Some b) × (p b ≡ true)
            if_so true passes same = (is ∙ same, ap p (sym (same_Some c b same)) ∙ passes)
            if_so false passes same = cc

    booked_own : (i : ℕ) (b : Booking) → booked_if p past i ≡ Some b → item_booked b ≡ i
    booked_own i b h = booking_item past i b (booked_parts i b h).0

    booked_to : (b : Booking) → booked_if p past b.item.0 ≡ Some b → In b (filter p (standing_bookings past))
    booked_to b h =
        let k = booked_parts b.item.0 b h in
        filter_in p (standing_bookings past) b (in_standing past b.item.0 b k.0) k.1

    booked_of : (b : Booking) → In b (filter p (standing_bookings past))
        → (b.item.0 < s.items) × (booked_if p past b.item.0 ≡ Some b)
    booked_of b here =
        let k = in_filter p (standing_bookings past) b here in (
          (standing_fits s past b legal k.0).item,
          ap (option_and_then (chosen p)) (standing_is past b k.0) ∙ ap (λ x. if x then Some b else None) k.1,
        )

    standing_rise : RisesBy number_booked (filter p (standing_bookings past))
    standing_rise =
        rises_filter number_booked p (standing_bookings past)
        (rises_filter number_booked (stands past) (bookings past) (bookings_rise past))

    standing_older : (b : Booking) → In b (filter p (standing_bookings past)) → b.number < length past
    standing_older b here =
        of_in (λ (c : Booking). c.number < length past) (bookings past) b (bookings_below past)
        (in_filter (stands past) (bookings past) b (in_filter p (standing_bookings past) b here).0).0

  pub later_is : (sorted : List Booking) → IsPermutation (found_in (later_of past) (range_with_len 0 s.items)) sorted
      → IsNonDecreasingBy number_booked sorted → sorted ≡ filter (is_later past) (standing_bookings past)
  later_is sorted moved up =
      sorted_is item_booked (later_of past) (booked_own (is_later past)) s.items sorted moved
      number_booked (filter (is_later past) (standing_bookings past)) up (standing_rise (is_later past))
      (booked_of (is_later past)) (booked_to (is_later past))

-- ---- the order in which bookings fire, as one number

abbrev place_of : ℕ → Booking → ℕ
place_of most b = most * b.due + b.number

sooner : (most : ℕ) (a b : Booking) → a.number < most → a.due < b.due → place_of most a < place_of most b
sooner most a b small less =
    let step : most * suc a.due ≤ most * b.due = mul-le-mul_left most (omega arith) in
    let more : most * suc a.due ≡ most * a.due + most = mul-suc most a.due in
    omega arith

no_later : (most : ℕ) (a b : Booking) → a.number < most → IsNoLater a b → place_of most a ≤ place_of most b
no_later most a b small (inl less) = let h = sooner most a b small less in omega arith
no_later most a b small (inr same) =
    let h : most * a.due ≡ most * b.due = ap (λ d. most * d) same.0 in omega (arith, same.1)

later_number : (most : ℕ) (a b : Booking) → b.number < most → a.number < b.number → a.due ≤ b.due
    → place_of most a < place_of most b
later_number most a b small less least =
    let step : most * a.due ≤ most * b.due = mul-le-mul_left most least in omega arith

put_rises : (most : ℕ) (b : Booking) (bs : List Booking) → RisesBy (place_of most) bs → b.number < most
    → AllByRecursion (λ (a : Booking). (a.number < most) × (b.number < a.number)) bs
    → RisesBy (place_of most) (put_by_due b bs)
put_rises most b [] up small all = (tt, tt)
put_rises most b (a ∷ bs) up small all = at (nat_lt a.due b.due) refl (put_rises most b bs up.1 small all.1)
  where
    at : (x : Bool) → nat_lt a.due b.due ≡ x → RisesBy (place_of most) (put_by_due b bs)
        → RisesBy (place_of most) (if x then a ∷ put_by_due b bs else b ∷ a ∷ bs)
    at true less rest = (
      put_all (λ y. place_of most a < place_of most y) b bs
          (sooner most a b all.0.0 (ltb-true a.due b.due less)) up.0,
      rest,
    )
    at false more rest =
        let first : place_of most b < place_of most a =
        later_number most b a all.0.0 all.0.1 (grind (arith, nat_tests, more)) in (
          (first, All_later a bs first up.0),
          up,
        )
      where
        All_later : (a : Booking) (bs : List Booking) → place_of most b < place_of most a
            → AllByRecursion (λ y. place_of most a < place_of most y) bs
            → AllByRecursion (λ y. place_of most b < place_of most y) bs
        All_later a [] first all = tt
        All_later a (y ∷ ys) first all = (omega (arith, first, all.0), All_later a ys first all.1)

by_due_rises : (most : ℕ) (bs : List Booking) → RisesBy number_booked bs
    → AllByRecursion (λ (a : Booking). a.number < most) bs → RisesBy (place_of most) (by_due bs)
by_due_rises most [] up small = tt
by_due_rises most (b ∷ bs) up small =
    put_rises most b (by_due bs) (by_due_rises most bs up.1 small.1) small.0
    (all_by_due (λ (a : Booking). (a.number < most) × (b.number < a.number)) bs
    (All_both (λ (a : Booking). a.number < most) (λ (a : Booking). b.number < a.number)
    (λ (a : Booking). (a.number < most) × (b.number < a.number)) bs (λ a one two. (one, two)) small.1 up.0))

module _ (s : Layout) (past : List Entry) (legal : IsLegal s past) (sorted : List Booking)
    (moved : IsPermutation (found_in (overdue_of past) (range_with_len 0 s.items)) sorted) where
  abbrev due_now : List Booking
  due_now = filter (is_due past) (standing_bookings past)

  abbrev key : Booking → ℕ
  key = place_of (length past)

  due_own : (i : ℕ) (b : Booking) → overdue_of past i ≡ Some b → item_booked b ≡ i
  due_own = booked_own s past legal (is_due past)

  due_older : (b : Booking) → In b sorted → b.number < length past
  due_older b here =
      standing_older s past legal (is_due past) b
      (booked_to s past legal (is_due past) b
      (sorted_found item_booked (overdue_of past) due_own s.items sorted moved b here))

  due_rises : AllAdjacentBelow IsNoLater sorted (length sorted) → IsNonDecreasingBy key sorted
  due_rises up =
      IsNonDecreasingBy-from_all_adjacent key sorted
      (λ k d less. no_later (length past) (slice_index_or sorted k d) (slice_index_or sorted (k + 1) d)
      (due_older (slice_index_or sorted k d)
      (in_at sorted k (slice_index_or sorted k d) (omega arith)
      (get_or_default sorted k (slice_index_or sorted k d) d (omega arith)))) (up k d less))

  pub overdue_is : AllAdjacentBelow IsNoLater sorted (length sorted)
      → sorted ≡ by_due (filter (is_due past) (standing_bookings past))
  overdue_is up =
      sorted_is item_booked (overdue_of past) due_own s.items sorted moved key (by_due due_now) (due_rises up)
      (by_due_rises (length past) due_now (standing_rise s past legal (is_due past))
      (all_in (λ (a : Booking). a.number < length past) due_now (standing_older s past legal (is_due past))))
      (λ b here. booked_of s past legal (is_due past) b (of_by_due b due_now here))
      (λ b is. in_by_due b due_now (booked_to s past legal (is_due past) b is))
