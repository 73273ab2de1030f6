-- The timers refine a legal history, and the calls that apply an entry to them may be made.
use Rattle.cmwq_refinement.specs.Common.{◌≡◌, ℕ, Bool, true, false, List, ◌∷◌, length, Option, Some, None, refl, sym}
use Rattle.cmwq_refinement.specs.Common.{ap, ◌∙◌, arith, is_some, if◌then◌else◌, Entry, Booking, Layout, item_of}
use Rattle.cmwq_refinement.specs.Common.{settles, booking_of, IsLegal}
use Rattle.cmwq_refinement.specs.Timers.{timers_of, timers_after_settling, timers_after, MayBeSet}
use Rattle.cmwq_refinement.proofs.Settled.{settled_of_an_item, booking_fits}
use Rattle.cmwq_refinement.proofs.TimerSteps.{rows_for_items, bookings_set_timers, settled_timers_are_taken_back}
use Rattle.cmwq_refinement.proofs.TimerSteps.{others_keep_timers}
use Rattle.cmwq_refinement.proofs.FirstDue.{entries_apply_to_timers}

pub timers_refine : (s : Layout) (past : List Entry) (e : Entry) → IsLegal s (e ∷ past)
    → timers_of s (e ∷ past) ≡ timers_after past e (timers_of s past)
timers_refine s past e legal = by (settles e.reply) refl
  where
    settled : settles e.reply ≡ true → (i : Option ℕ) (o : Option Booking) → item_of e ≡ i
        → booking_of e (length past) ≡ o → timers_of s (e ∷ past) ≡ timers_after_settling i o (timers_of s past)
    settled h i (Some b) item books = bookings_set_timers s past e b books
    settled h (Some i) None item none = settled_timers_are_taken_back s past e i h none item
    settled h None None item none = let some = sym (ap is_some item) ∙ settled_of_an_item s past e legal h in cc

    by : (c : Bool) → settles e.reply ≡ c
        → timers_of s (e ∷ past)
        ≡ (if c then timers_after_settling (item_of e) (booking_of e (length past)) (timers_of s past)
        else timers_of s past)
    by true h = settled h (item_of e) (booking_of e (length past)) refl refl
    by false h = others_keep_timers s past e h

pub timers_may_be_set : (s : Layout) (past : List Entry) (e : Entry) → IsLegal s (e ∷ past)
    → MayBeSet (item_of e) (booking_of e (length past)) (timers_of s past)
timers_may_be_set s past e legal = by (item_of e) (booking_of e (length past)) refl refl
  where
    by : (i : Option ℕ) (o : Option Booking) → item_of e ≡ i → booking_of e (length past) ≡ o
        → MayBeSet i o (timers_of s past)
    by i (Some b) item books = omega (arith, (booking_fits s past e b legal books).item, rows_for_items s past)
    by (Some i) None item none =
        omega (arith, (entries_apply_to_timers s past e legal).item i item, rows_for_items s past)
    by None None item none = tt
