-- Whether some item is booked on a queue.
use Rattle.cmwq_refinement.specs.Common.{◌≡◌, ℕ, true, List, Option, Some, None, refl, ap, ◌∙◌, arith, option_map}
use Rattle.cmwq_refinement.specs.Common.{range_with_len, list_any, Entry, Booking, Layout, booking, standing_bookings}
use Rattle.cmwq_refinement.specs.Common.{is_booked_on, IsLegal, is_timer_on}
use Rattle.cmwq_refinement.proofs.Numbers.{any_in, in_any, in_map, in_mapped, in_range, same_bools}
use Rattle.cmwq_timer.specs.Rows.{any_timer_on as booked_in_rows}
use Rattle.cmwq_refinement.specs.Timers.{timer_for, timer_row, timers_of}
use Rattle.cmwq_refinement.proofs.FirstDue.{in_standing, standing_is, standing_fits}

of_row : (past : List Entry) (q i : ℕ) (o : Option Booking) → booking past i ≡ o
    → is_timer_on q (option_map timer_for o) ≡ true → list_any (is_booked_on q) (standing_bookings past) ≡ true
of_row past q i None is h = cc
of_row past q i (Some b) is h = any_in (is_booked_on q) (standing_bookings past) b (in_standing past i b is) h

pub timers_stand_on_queues : (s : Layout) (past : List Entry) (q : ℕ) → IsLegal s past
    → booked_in_rows (timers_of s past) q ≡ list_any (is_booked_on q) (standing_bookings past)
timers_stand_on_queues s past q legal =
    same_bools (booked_in_rows (timers_of s past) q) (list_any (is_booked_on q) (standing_bookings past)) row_stands
    stands_in_row
  where
    row_stands : booked_in_rows (timers_of s past) q ≡ true → list_any (is_booked_on q) (standing_bookings past) ≡ true
    row_stands h =
        let k = in_any (is_timer_on q) (timers_of s past) h in
        let i = in_map (timer_row past) (range_with_len 0 s.items) k.0 k.1 in
        of_row past q i.0 (booking past i.0) refl (ap (is_timer_on q) i.2 ∙ k.2)

    stands_in_row : list_any (is_booked_on q) (standing_bookings past) ≡ true → booked_in_rows (timers_of s past) q
        ≡ true
    stands_in_row h =
        let k = in_any (is_booked_on q) (standing_bookings past) h in
        let row =
        in_mapped (timer_row past) (range_with_len 0 s.items) k.0.item.0
        (in_range 0 s.items k.0.item.0 (omega arith) (omega (arith, (standing_fits s past k.0 legal k.1).item))) in
        any_in (is_timer_on q) (timers_of s past) (timer_row past k.0.item.0) row (rw (standing_is past k.0 k.1) k.2)
