-- In a legal history what settles is of an item that there is, and what books is for a queue that there is.
use Rattle.cmwq_refinement.specs.Common.{◌≡◌, ◌<◌, ℕ, true, false, List, [], ◌∷◌, length, Option, Some, None, refl}
use Rattle.cmwq_refinement.specs.Common.{arith, is_some, option_and_then, option_or, AllByRecursion, and_parts}
use Rattle.cmwq_refinement.specs.Common.{ltb-true, nat_tests, Who, Call, Reply, Entry, Booking, Layout, may_make}
use Rattle.cmwq_refinement.specs.Common.{has_place, has_numbers, item_called, item_fired, item_of, settles, due_in}
use Rattle.cmwq_refinement.specs.Common.{booked_by, booking_of, bookings, answer, wait_answer, destroy_answer}
use Rattle.cmwq_refinement.specs.Common.{set_max_answer, fired_answer, first_due, take_answer, finish_answer}
use Rattle.cmwq_refinement.specs.Common.{retire_answer, IsLegal, Bool, Ticket, WorkerId, finished_answer, Caller}
use Rattle.cmwq_refinement.specs.Common.{Worker, end_of_ticket, start_of, Queueing, if◌then◌else◌, false≢true, sym, ◌∙◌}
use Rattle.cmwq_refinement.proofs.Numbers.{all_more}
use Rattle.cmwq_model.specs.declared.call.Call.TheVariants as call
use Rattle.cmwq_theory_steps.proofs.Inversions.{answer_is}

-- ---- replies that neither settle an item nor name one

record IsQuiet (r : Reply) : Type 0 where
  unsettled : settles r ≡ false
  unfired : item_fired r ≡ None

-- ---- the item of a call: it stands there, or is fired, or there is none

data ItemCase (s : Layout) (past : List Entry) (c : Call) (r : Reply) : Type 0 where
  called : (i : ℕ) → item_called c ≡ Some i → (has_numbers s c ≡ true → i < s.items) → ItemCase s past c r
  fires : item_called c ≡ None → r ≡ fired_answer (first_due past) (length past) → ItemCase s past c r
  none : item_called c ≡ None → IsQuiet r → ItemCase s past c r

pub place_fits : (s : Layout) (i q c : ℕ) → has_place s i q c ≡ true → (i < s.items) × (q < length s.queues)
    × (c < s.cpus)
place_fits s i q c h = grind (arith, nat_tests)

quiet_if : (b : Bool) (q r : Reply) → IsQuiet q → IsQuiet r → IsQuiet (if b then q else r)
quiet_if true q r h k = h
quiet_if false q r h k = k

end_quiet : (past : List Entry) (o : Option Ticket) → IsQuiet (end_of_ticket past o)
end_quiet past o = grind arith

start_quiet : (s : Layout) (past : List Entry) (w : WorkerId) (o : Option Queueing) → IsQuiet (start_of s past w o)
start_quiet s past w o = grind arith

finished_quiet : (o : Option ℕ) → IsQuiet (finished_answer o)
finished_quiet o = grind arith

ruleset quiet_rules = (quiet_if, end_quiet, start_quiet, finished_quiet)

item_case : (s : Layout) (past : List Entry) (who : Who) (c : Call) → ItemCase s past c (answer s past who c)
unfolding answer take_answer finish_answer retire_answer wait_answer destroy_answer set_max_answer
item_case s past who (call.Queue i q c) = called i.0 refl (λ h. (place_fits s i.0 q.0 c.0 h).0)
item_case s past who (call.Delay i q c t) = called i.0 refl (λ h. (place_fits s i.0 q.0 c.0 h).0)
item_case s past who (call.Modify i q c t) = called i.0 refl (λ h. (place_fits s i.0 q.0 c.0 h).0)
item_case s past who (call.Cancel i) = called i.0 refl (ltb-true _ _)
item_case s past who call.Fire = fires refl refl
item_case s past who (call.FlushItem i) = called i.0 refl (ltb-true _ _)
item_case s past who (call.FlushDelayed i) = called i.0 refl (ltb-true _ _)
item_case s past who (call.CancelSync i) = called i.0 refl (ltb-true _ _)
item_case s past (Caller c) k = none refl (search quiet_rules)
item_case s past (Worker w) k = none refl (search quiet_rules)

-- ---- what settles is of an item

settled_item : (s : Layout) (past : List Entry) (c : Call) (r : Reply) → ItemCase s past c r → settles r ≡ true
    → is_some (option_or (item_called c) (item_fired r)) ≡ true
settled_item s past c r (called i is less) h = rw is refl
settled_item s past c r (fires is fire) h = grind (arith, is, fire)
settled_item s past c r (none is quiet) h = absurd (false≢true (sym quiet.unsettled ∙ h))

pub settled_of_an_item : (s : Layout) (past : List Entry) (e : Entry) → IsLegal s (e ∷ past) → settles e.reply ≡ true
    → is_some (item_of e) ≡ true
settled_of_an_item s past e legal h =
    let is = answer_is s past e legal in
    rw is (settled_item s past e.call (answer s past e.who e.call) (item_case s past e.who e.call) (rw is at h))

-- ---- what books fits

pub record Fits (s : Layout) (b : Booking) : Type 0 where
  pub item : b.item.0 < s.items
  pub queue : b.place.queue.0 < length s.queues
  pub cpu : b.place.cpu.0 < s.cpus

pub numbers_fit : (s : Layout) (past : List Entry) (e : Entry) → IsLegal s (e ∷ past) → has_numbers s e.call ≡ true
unfolding IsLegal
numbers_fit s past e legal = (and_parts (may_make s e.who e.call) (has_numbers s e.call) legal.0).1

booked_fits : (s : Layout) (c : Call) (n due : ℕ) (b : Booking) → has_numbers s c ≡ true → booked_by c n due ≡ Some b
    → Fits s b
booked_fits s (call.Delay i q k t) n due b h is = grind (arith, place_fits s i.0 q.0 k.0 h, is)
booked_fits s (call.Modify i q k t) n due b h is = grind (arith, place_fits s i.0 q.0 k.0 h, is)
booked_fits s c n due b h is = cc

pub booking_fits : (s : Layout) (past : List Entry) (e : Entry) (b : Booking) → IsLegal s (e ∷ past)
    → booking_of e (length past) ≡ Some b → Fits s b
booking_fits s past e b legal is = due (due_in e.reply) is
  where
    due : (o : Option ℕ) → option_and_then (booked_by e.call (length past)) o ≡ Some b → Fits s b
    due None h = cc
    due (Some d) h = booked_fits s e.call (length past) d b (numbers_fit s past e legal) h

pub bookings_fit : (s : Layout) (past : List Entry) → IsLegal s past → AllByRecursion (Fits s) (bookings past)
unfolding bookings IsLegal
bookings_fit s [] legal = tt
bookings_fit s (e ∷ past) legal =
    all_more (Fits s) (bookings past) (booking_of e (length past)) (bookings_fit s past legal.2)
    (λ b is. booking_fits s past e b legal is)

-- ---- the item is one that there is

item_less : (s : Layout) (past : List Entry) (c : Call) (r : Reply) (i : ℕ) → has_numbers s c ≡ true
    → ((b : Booking) → first_due past ≡ Some b → Fits s b) → ItemCase s past c r
    → option_or (item_called c) (item_fired r) ≡ Some i → i < s.items
item_less s past c r i numbers due (called j is less) h = grind (arith, less numbers)
item_less s past c r i numbers due (fires is fire) h = fired (first_due past) due (cc)
  where
    fired : (o : Option Booking) → ((b : Booking) → o ≡ Some b → Fits s b) → item_fired (fired_answer o (length past))
        ≡ Some i → i < s.items
    fired None fits k = cc
    fired (Some b) fits k = grind (arith, fits b refl)
item_less s past c r i numbers due (none is quiet) h = cc (quiet.unfired)

pub item_there : (s : Layout) (past : List Entry) (e : Entry) (i : ℕ) → IsLegal s (e ∷ past)
    → ((b : Booking) → first_due past ≡ Some b → Fits s b) → item_of e ≡ Some i → i < s.items
item_there s past e i legal due h =
    let is = answer_is s past e legal in
    item_less s past e.call (answer s past e.who e.call) i (numbers_fit s past e legal) due
    (item_case s past e.who e.call) (rw is at h)
