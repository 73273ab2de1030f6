-- The timer that fires first is that of the booking that is due first.
use Rattle.cmwq_refinement.specs.Common.{◌≡◌, ◌<◌, ◌≤◌, ℕ, suc, true, false, not, ◌&&◌, List, [], ◌∷◌, length, filter}
use Rattle.cmwq_refinement.specs.Common.{Option, Some, None, option_to_list, nat_lt, nat_le, refl, sym, ap, ◌∙◌, arith}
use Rattle.cmwq_refinement.specs.Common.{option_map, AllByRecursion, list_any, eqb-true, eq-eqb, not-true, nat_tests}
use Rattle.cmwq_refinement.specs.Common.{same_Some, ItemId, Entry, Booking, Layout, is_at, is_of_item, now, booking}
use Rattle.cmwq_refinement.specs.Common.{booking_of, bookings, number_booked, stands, standing_bookings, may_fire}
use Rattle.cmwq_refinement.specs.Common.{is_due_before, is_soonest, soonest, first_due, IsLegal, Timer, MayFire}
use Rattle.cmwq_refinement.specs.Common.{NoneMayFire, IsFirstToFire, timer_of, All_map, is_at-true, All-from_recursion}
use Rattle.cmwq_refinement.specs.Common.{settles}
use Rattle.cmwq_refinement.proofs.Numbers.{In, RisesBy, all_in, all_more, and_parts, cond_both, filter_in, find_is}
use Rattle.cmwq_refinement.proofs.Numbers.{found, in_filter, in_left, in_right, list_any_none, none_in, none_pass}
use Rattle.cmwq_refinement.proofs.Numbers.{of_in, option_in, rises_filter, rises_more, rises_unique}
use Rattle.cmwq_timer.specs.Due.{is_sooner, timer_may_fire}
use Rattle.cmwq_refinement.specs.Timers.{timer_for, timers_of, HoldsDraining, item_due, MayApplyToTimers}
use Rattle.cmwq_refinement.proofs.TimerSteps.{booking_books, row_at, row_past}
use Rattle.cmwq_refinement.proofs.Settled.{Fits, bookings_fit, settled_of_an_item, item_there, booking_fits}

-- ---- bookings stand by their numbers

bookings_below : (past : List Entry) → AllByRecursion (λ b. b.number < length past) (bookings past)
unfolding bookings
bookings_below [] = tt
bookings_below (e ∷ past) =
    all_more (λ b. b.number < suc (length past)) (bookings past) (booking_of e (length past))
    (All_map (λ b. b.number < length past) (λ b. b.number < suc (length past)) (bookings past) (λ b less. omega arith)
    (bookings_below past))
    (λ b is. omega (arith, (booking_books e (length past) b is).number))

bookings_rise : (past : List Entry) → RisesBy number_booked (bookings past)
unfolding bookings
bookings_rise [] = tt
bookings_rise (e ∷ past) =
    rises_more number_booked (length past) (bookings past) (booking_of e (length past)) (bookings_rise past)
    (bookings_below past) (λ b is. (booking_books e (length past) b is).number)

-- ---- an item's booking is one of those that stand

its_booking : (past : List Entry) (i : ℕ) (b : Booking) → booking past i ≡ Some b
    → (b.item.0 ≡ i) × In b (bookings past)
unfolding booking bookings
its_booking [] i b h = cc
its_booking (e ∷ past) i b h =
    let new = booking_of e (length past) in
    cond_both (settles e.reply && is_of_item i e) new (booking past i) (λ o. o ≡ Some b
    → (b.item.0 ≡ i) × In b (bookings (e ∷ past)))
    (λ settled is. (
      same_Some b.item.0 i
          (sym (booking_books e (length past) b is).item
          ∙ is_at-true _ i (and_parts (settles e.reply) (is_of_item i e) settled).1),
      in_right (bookings past) (option_to_list new) b (option_in new b is),
    ))
    (λ kept is. let k = its_booking past i b is in (k.0, in_left (bookings past) (option_to_list new) b k.1)) h

pub in_standing : (past : List Entry) (i : ℕ) (b : Booking) → booking past i ≡ Some b → In b (standing_bookings past)
in_standing past i b h =
    let k = its_booking past i b h in
    filter_in (stands past) (bookings past) b k.1
    (ap (λ o. is_at (option_map number_booked o) b.number) (ap (booking past) k.0 ∙ h)
    ∙ eq-eqb b.number b.number refl)

-- what stands is the booking of its item
pub standing_is : (past : List Entry) (b : Booking) → In b (standing_bookings past) → booking past b.item.0 ≡ Some b
standing_is past b h =
    let k = in_filter (stands past) (bookings past) b h in
    with (booking past b.item.0) refl k.0 k.1
  where
    with : (o : Option Booking) → booking past b.item.0 ≡ o → In b (bookings past)
        → is_at (option_map number_booked o) b.number ≡ true → o ≡ Some b
    with None is made h = cc
    with (Some c) is made h =
        ap Some (rises_unique number_booked (bookings past) c b (bookings_rise past) (its_booking past b.item.0 c is).1
        made (eqb-true c.number b.number h))

-- ---- what may fire

abbrev fireable : List Entry → List Booking
fireable past = filter (may_fire past) (standing_bookings past)

pub standing_fits : (s : Layout) (past : List Entry) (b : Booking) → IsLegal s past → In b (standing_bookings past)
    → Fits s b
standing_fits s past b legal h =
    of_in (Fits s) (bookings past) b (bookings_fit s past legal) (in_filter (stands past) (bookings past) b h).0

same_test : (s : Layout) (past : List Entry) (holds : List ℕ) (b : Booking) → HoldsDraining s past holds → Fits s b
    → timer_may_fire (now past) holds (timer_for b) ≡ may_fire past b
same_test s past holds b each fits = ap (λ x. nat_le b.due (now past) && not x) (each b.place.queue.0 fits.queue)

fires_as_timer : (s : Layout) (past : List Entry) (holds : List ℕ) (b : Booking) → IsLegal s past
    → HoldsDraining s past holds → In b (fireable past)
    → MayFire (now past) holds (timers_of s past) b.item.0 (timer_for b)
fires_as_timer s past holds b legal each h =
    let k = in_filter (may_fire past) (standing_bookings past) b h in
    let fits = standing_fits s past b legal k.0 in (
      row_at s past b.item.0 fits.item ∙ ap (option_map timer_for) (standing_is past b k.0),
      same_test s past holds b each fits ∙ k.1,
    )

record IsFired (past : List Entry) (i : ℕ) (t : Timer) : Type 0 where
  booked : Booking
  item : booked.item.0 ≡ i
  timer : timer_for booked ≡ t
  fires : In booked (fireable past)

fired_booking : (s : Layout) (past : List Entry) (holds : List ℕ) (i : ℕ) (t : Timer) → IsLegal s past
    → HoldsDraining s past holds → i < s.items → MayFire (now past) holds (timers_of s past) i t → IsFired past i t
fired_booking s past holds i t legal each less may = with (booking past i) refl (sym (row_at s past i less) ∙ may.0)
  where
    with : (o : Option Booking) → booking past i ≡ o → option_map timer_for o ≡ Some t → IsFired past i t
    with None is h = cc
    with (Some b) is h =
        let same : timer_for b ≡ t = same_Some (timer_for b) t h in
        let here = in_standing past i b is in
        record {
          booked = b;
          item = (its_booking past i b is).0;
          timer = same;
          fires = filter_in (may_fire past) (standing_bookings past) b here
              (sym (same_test s past holds b each (standing_fits s past b legal here))
              ∙ ap (timer_may_fire (now past) holds) same ∙ may.1);
        }

within_rows : (s : Layout) (past : List Entry) (i : ℕ) (t : Timer) → timer_of (timers_of s past) i ≡ Some t
    → i < s.items
within_rows s past i t h = grind (arith, row_past s past i)

-- ---- the first

due_later : (a t : Timer) → is_sooner a t ≡ false → nat_lt a.due t.due ≡ false
due_later a t h = grind (arith, nat_tests)

number_later : (a t : Timer) → is_sooner a t ≡ false → nat_lt t.due a.due ≡ false → t.number ≤ a.number
number_later a t h k = grind (arith, nat_tests)

soonest_is : (past : List Entry) (bs : List Booking) (b : Booking) → RisesBy number_booked bs → In b bs
    → AllByRecursion (λ a. is_sooner (timer_for a) (timer_for b) ≡ false) bs → soonest bs ≡ Some b
soonest_is past bs b rise here none =
    let none_before =
    list_any_none (is_due_before b) bs
    (All-from_recursion (λ a. nat_lt a.due b.due ≡ false) bs
    (All_map _ (λ a. nat_lt a.due b.due ≡ false) bs (λ a h. due_later (timer_for a) (timer_for b) h) none)) in
    find_is number_booked (is_soonest bs) bs b rise here (ap not none_before)
    (all_in (λ a. is_soonest bs a ≡ true → b.number ≤ a.number) bs
    (λ a i first. number_later (timer_for a) (timer_for b) (of_in _ bs a none i)
    (of_in (λ c. nat_lt c.due a.due ≡ false) bs b
    (none_pass (is_due_before a) bs (not-true (list_any (is_due_before a) bs) first)) here)))

fireable_rises : (past : List Entry) → RisesBy number_booked (fireable past)
fireable_rises past =
    rises_filter number_booked (may_fire past) (standing_bookings past)
    (rises_filter number_booked (stands past) (bookings past) (bookings_rise past))

pub first_timer_is_first_due : (s : Layout) (past : List Entry) (holds : List ℕ) (i : ItemId) → IsLegal s past
    → HoldsDraining s past holds → IsFirstToFire (now past) holds (timers_of s past) i.0 → item_due past ≡ Some i
unfolding first_due
first_timer_is_first_due s past holds i legal each first =
    let f = fired_booking s past holds i.0 first.timer legal each (within_rows s past i.0 first.timer first.may_fire.0)
    first.may_fire in
    let none = all_in (λ a. is_sooner (timer_for a) (timer_for f.booked) ≡ false) (fireable past)
    (λ a k. ap (is_sooner (timer_for a)) f.timer
    ∙ first.none_sooner a.item.0 (timer_for a) (fires_as_timer s past holds a legal each k)) in
    ap (option_map (λ (b : Booking). b.item))
    (soonest_is past (fireable past) f.booked (fireable_rises past) f.fires none)
    ∙ ap (λ (n : ℕ). Some (item_id n)) f.item
  where
    item_id : ℕ → ItemId
    item_id n = record { 0 = n }

pub no_timer_is_none_due : (s : Layout) (past : List Entry) (holds : List ℕ) → IsLegal s past
    → HoldsDraining s past holds → NoneMayFire (now past) holds (timers_of s past) → item_due past ≡ None
unfolding first_due
no_timer_is_none_due s past holds legal each none =
    let empty : fireable past ≡ [] =
    none_in (fireable past) (λ b i. none b.item.0 (timer_for b) (fires_as_timer s past holds b legal each i)) in
    ap (λ bs. option_map (λ (b : Booking). b.item) (soonest bs)) empty

-- ---- what is applied to the timers

first_due_fits : (s : Layout) (past : List Entry) (b : Booking) → IsLegal s past → first_due past ≡ Some b → Fits s b
unfolding first_due
first_due_fits s past b legal h =
    standing_fits s past b legal
    (in_filter (may_fire past) (standing_bookings past) b (found (is_soonest (fireable past)) (fireable past) b h).0).0

pub entries_apply_to_timers : (s : Layout) (past : List Entry) (e : Entry) → IsLegal s (e ∷ past)
    → MayApplyToTimers s past e
unfolding IsLegal
entries_apply_to_timers s past e legal = record {
  of_an_item = settled_of_an_item s past e legal;
  item = λ i. item_there s past e i legal (λ b. first_due_fits s past b legal.2);
  queue = λ b is. (booking_fits s past e b legal is).queue;
}
