-- What is booked for later is due within the ticks that a call can say.
use Rattle.cmwq_resume.specs.Common.{◌≡◌, ◌≤◌, ◌+◌, ◌&&◌, ℕ, Bool, true, false, List, [], ◌∷◌, length}
use Rattle.cmwq_resume.specs.Common.{filter, Option, Some, None, refl, sym, ap, arith, if◌then◌else◌, AllByRecursion}
use Rattle.cmwq_resume.specs.Common.{option_and_then, nat_tests, Call, Reply, Entry, Booking, Layout, Who}
use Rattle.cmwq_resume.specs.Common.{IsLegal, booking, booking_of, booked_by, due_in, is_of_item, now, settles}
use Rattle.cmwq_resume.specs.Common.{standing_bookings, ticks_told}
use Rattle.cmwq_model.specs.Prelude.{greatest}
use Rattle.cmwq_model.specs.declared.call.Call.TheVariants as call
use Rattle.std.proofs.lemmas.Option.{same_Some}
use Rattle.cmwq_lemmas.proofs.Members.{all_in, in_filter}
use Rattle.cmwq_refinement.proofs.FirstDue.{standing_is}
use Rattle.cmwq_theory_steps.proofs.Causes.{Cause, cause_of}
use Rattle.cmwq_theory_steps.proofs.Causes as cause
use Rattle.cmwq_resume.specs.Leavings.{HasTicks, HaveTicks, IsWithin}
use Rattle.cmwq_resume.specs.Resume.{is_later}

due_in_range : (s : Layout) (past : List Entry) (who : Who) (c : Call) (r : Reply) → HasTicks c → Cause s past who c r
    → (d : ℕ) → due_in r ≡ Some d → d ≤ now past + greatest
due_in_range s past who c r ticks (cause.delayed w i q p t some free none) d is =
    omega (arith, ticks, same_Some (now past + t) d is)
due_in_range s past who c r ticks (cause.modified_booked w i q p t some free none) d is =
    omega (arith, ticks, same_Some (now past + t) d is)
due_in_range s past who c r ticks (cause.modified_rebooked w i q p t some free pending) d is =
    omega (arith, ticks, same_Some (now past + t) d is)
due_in_range s past who c r ticks other d is = cc

booked_due : (c : Call) (n d : ℕ) (b : Booking) → booked_by c n d ≡ Some b → b.due ≡ d
booked_due (call.Delay i q p t) n d b h = sym (ap (λ (x : Booking). x.due) (same_Some _ b h))
booked_due (call.Modify i q p t) n d b h = sym (ap (λ (x : Booking). x.due) (same_Some _ b h))
booked_due c n d b h = cc

booked_soon : (s : Layout) (past : List Entry) → IsLegal s past → HaveTicks past → (i : ℕ) (b : Booking)
    → booking past i ≡ Some b → b.due ≤ now past + greatest
unfolding IsLegal booking now
booked_soon s [] legal ticks i b h = cc
booked_soon s (e ∷ past) legal ticks i b h =
    at (settles e.reply && is_of_item i e) h (booked_soon s past legal.2 ticks.1 i b)
  where
    made : (o : Option ℕ) → due_in e.reply ≡ o → option_and_then (booked_by e.call (length past)) o ≡ Some b
        → b.due ≤ now past + ticks_told e.call + greatest
    made None is h = cc
    made (Some d) is h =
        omega (
          arith,
          due_in_range s past e.who e.call e.reply ticks.0 (cause_of s past e legal) d is,
          booked_due e.call (length past) d b h,
        )

    at : (x : Bool) → (if x then booking_of e (length past) else booking past i) ≡ Some b
        → (booking past i ≡ Some b → b.due ≤ now past + greatest)
        → b.due ≤ now past + ticks_told e.call + greatest
    at true h earlier = made (due_in e.reply) refl h
    at false h earlier = omega (arith, earlier h)

pub later_within : (s : Layout) (past : List Entry) → IsLegal s past → HaveTicks past
    → AllByRecursion (IsWithin (now past)) (filter (is_later past) (standing_bookings past))
later_within s past legal ticks =
    all_in (IsWithin (now past)) (filter (is_later past) (standing_bookings past))
    (λ b here. let k = in_filter (is_later past) (standing_bookings past) b here in
    (after b k.1, booked_soon s past legal ticks b.item.0 b (standing_is past b k.0)))
  where
    after : (b : Booking) → is_later past b ≡ true → now past ≤ b.due
    after b h = grind (arith, nat_tests, h)
