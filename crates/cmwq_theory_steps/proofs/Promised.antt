-- Room: the replies that are promised need no more than the history did before, so they are never refused.
use Rattle.cmwq_theory_steps.specs.Common.{◌≡◌, ◌≤◌, ◌+◌, ℕ, true, false, not, ◌&&◌, List, ◌∷◌, length, Option, Some}
use Rattle.cmwq_theory_steps.specs.Common.{None, refl, ap, ap₂, ◌∙◌, subst, arith, ◌*◌, option_map, option_and_then}
use Rattle.cmwq_theory_steps.specs.Common.{is_some, option_or, option_map_or, Who, Call, Reply, Entry, Queueing, Layout}
use Rattle.cmwq_theory_steps.specs.Common.{item_called, item_fired, settles, due_in, booking_of, booked_by, is_booked}
use Rattle.cmwq_theory_steps.specs.Common.{number_started, number_finished, number_cancelled, is_started, opens}
use Rattle.cmwq_theory_steps.specs.Common.{opening, gives_ticket, is_done, IsLegal, has_not_started, room_needed}
use Rattle.cmwq_model.specs.declared.reply.Reply.TheVariants as reply
use Rattle.cmwq_theory_steps.specs.Endings.{ending, number_replaced}
use Rattle.cmwq_theory_steps.specs.Histories.{one}
use Rattle.cmwq_theory_steps.specs.RoomSteps.{ends_unstarted, settles_booked, is_slept, is_woke, is_frozen_now}
use Rattle.cmwq_theory_steps.specs.RoomSteps.{is_thawed_now, is_promised}
use Rattle.cmwq_theory_steps.proofs.Causes.{Cause, cause_of}
use Rattle.cmwq_theory_steps.proofs.Causes as cause
use Rattle.cmwq_theory_steps.proofs.Fresh.{takes_back_unstarted, unstarted_is}
use Rattle.cmwq_theory_steps.proofs.Standing.{due_own}
use Rattle.cmwq_theory_steps.proofs.Pending.{opening_opens}
use Rattle.cmwq_theory_steps.proofs.Ended.{ends_which}
use Rattle.cmwq_theory_steps.proofs.Owing.{owed_goes_on}

-- ---- what a promised reply gives back is at least what it takes, and its own entry

weight : (r : Reply) (op bk eu ub : ℕ) → op ≤ one (opens r) → bk ≤ one (is_some (due_in r))
    → (is_some (number_cancelled r) ≡ true → eu ≡ 1) → (settles r ≡ true → ub ≡ 1) → is_promised r ≡ true
    → 1 + 2 * op + one (is_some (number_started r)) + one (is_slept r) + 3 * bk + one (gives_ticket r) + one
    (is_frozen_now r) ≤ 2 * one (is_some (number_started r)) + 2 * eu + one (is_some (number_finished r)) + one
    (is_woke r) + 3 * ub + one (is_done r) + one (is_thawed_now r)
weight (reply.Started n) op bk eu ub ho hb he hu h = omega arith
weight r op bk eu ub ho hb he hu h = grind arith

opened_most : (past : List Entry) (e : Entry) (o : Option Queueing) → opening past e ≡ o
    → one (is_some o) ≤ one (opens e.reply)
opened_most past e None h = omega arith
opened_most past e (Some x) h = omega (arith, ap one (opening_opens past e x h))

booked_most : (c : Call) (n : ℕ) (o : Option ℕ) → one (is_some (option_and_then (booked_by c n) o)) ≤ one (is_some o)
booked_most c n None = omega arith
booked_most c n (Some d) = grind arith

-- what is cancelled had not started
cancelled_unstarted : (s : Layout) (past : List Entry) (e : Entry) (n : ℕ) → IsLegal s (e ∷ past)
    → number_cancelled e.reply ≡ Some n → ends_unstarted past e ≡ true
cancelled_unstarted s past e n legal h = at (ending past e) (ends_which s past e legal ∙ which e.reply h)
  where
    which : (r : Reply) → number_cancelled r ≡ Some n
        → option_or (number_finished r) (option_or (number_cancelled r) (number_replaced past e)) ≡ Some n
    which (reply.Cancelled m) h = h
    which r h = grind arith

    new : is_started past n ≡ false
    new = let k = takes_back_unstarted s past e n legal h in
        subst (λ m. is_started past m ≡ false) k.number (unstarted_is past k.item k.queueing k.is_unstarted).not_started

    at : (o : Option Queueing) → option_map (λ (x : Queueing). x.number) o ≡ Some n
        → option_map_or (has_not_started past) o false ≡ true
    at None k = cc
    at (Some x) k = let same : x.number ≡ n = cc in ap not (ap (is_started past) same ∙ new)

cancelled_pays : (s : Layout) (past : List Entry) (e : Entry) (o : Option ℕ) → IsLegal s (e ∷ past)
    → number_cancelled e.reply ≡ o → is_some o ≡ true → one (ends_unstarted past e) ≡ 1
cancelled_pays s past e None legal is h = cc
cancelled_pays s past e (Some n) legal is h = ap one (cancelled_unstarted s past e n legal is)

-- what a promised reply settles was booked
was_booked : (s : Layout) (past : List Entry) (who : Who) (c : Call) (r : Reply) → Cause s past who c r
    → is_promised r ≡ true → settles r ≡ true
    → option_map_or (is_booked past) (option_or (item_called c) (item_fired r)) false ≡ true
was_booked s past who c r (cause.unbooked w i none was) h k = was
was_booked s past who c r (cause.fires w b due) h k = ap is_some (due_own past b due)
was_booked s past who c r (cause.sync_unbooked w i free none was) h k = was
was_booked s past who c r other h k = cc

pub promised_need_no_more : (s : Layout) (past : List Entry) (e : Entry) → IsLegal s (e ∷ past)
    → is_promised e.reply ≡ true → room_needed s (e ∷ past) ≤ room_needed s past
promised_need_no_more s past e legal h =
    let pays =
    weight e.reply (one (is_some (opening past e))) (one (is_some (booking_of e (length past))))
    (one (ends_unstarted past e)) (one (settles_booked past e))
    (opened_most past e _ refl) (booked_most e.call (length past) (due_in e.reply))
    (cancelled_pays s past e _ legal refl)
    (λ k. ap₂ (λ a b. one (a && b)) k (was_booked s past e.who e.call e.reply (cause_of s past e legal) h k)) h in
    omega (arith, owed_goes_on s past e legal)
