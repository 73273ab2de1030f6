-- What an entry does, read off the book.
use Rattle.cmwq_core.specs.Common.{◌≡◌, ℕ, List, ◌∷◌, length, Option, Some, None, refl, sym, ap, ◌∙◌, option_and_then}
use Rattle.cmwq_core.specs.Common.{option_map_or, same_Some, CpuId, PoolId, Who, Caller, Worker, Reply, Entry, Queueing}
use Rattle.cmwq_core.specs.Common.{Call, Booking, Layout, item_of, number_started, item_run, unstarted_queueing}
use Rattle.cmwq_core.specs.Common.{queueing_at, cpu_for, is_unstarted, still_open, IsLegal, fits, may_make, has_numbers}
use Rattle.cmwq_core.specs.Common.{booking_of, is_started, opening, owed, has_not_started, run, ending, queueing_run}
use Rattle.cmwq_core.specs.Common.{ended_by, ends_as_told, runs_are_queueings, found_unstarted, next_unstarted, found}
use Rattle.cmwq_core.specs.Common.{◌-◌, ◌≤◌, ◌+◌, ◌*◌, ◌==◌, Bool, true, false, not, is_some, arith, nat_lt, nat_le}
use Rattle.cmwq_core.specs.Common.{and_parts, ltb-true, fits_there, one, ends_unstarted, settles_booked, found_number}
use Rattle.cmwq_core.specs.Common.{starting, starts_next}
use Rattle.cmwq_model.specs.declared.record.Start.{Start}
use Rattle.cmwq_model.specs.declared.reply.Reply.TheVariants as reply
use Rattle.cmwq_model.specs.declared.call.Call.TheVariants as call
use Rattle.cmwq_refinement.proofs.FirstDue.{entries_apply_to_timers}
use Rattle.cmwq_refinement.proofs.Settled.{place_fits}
use Rattle.cmwq_core.specs.Book.{IsCallInside}
use Rattle.cmwq_state.specs.Tables.{IsThere}
use Rattle.cmwq_theory_steps.proofs.Owing.{owed_goes_on}
use Rattle.cmwq_theory_steps.proofs.RunSteps.{last_started}
use Rattle.cmwq_core.specs.Effects.{ended_from, IsInside, started_from, next_for, ends_early, paid_alone, taken_alone}
use Rattle.cmwq_theory_steps.proofs.ItemRuns.{run_is}
use Rattle.cmwq_state.specs.Flights.{run_open}

from_reply : (past : List Entry) (who : Who) (i : Option ℕ) (r : Reply)
    → ended_by past who i r ≡ ended_from r (queueing_run past who) (option_and_then (unstarted_queueing past) i)
from_reply past who i (reply.Finished n) = refl
from_reply past who i (reply.Cancelled n) = refl
from_reply past who i (reply.TicketCancelled k n) = refl
from_reply past who i (reply.Again k) = refl
from_reply past who i (reply.Rebooked d) = refl
from_reply past who i r = refl

pub ends_from : (s : Layout) (past : List Entry) (e : Entry) → IsLegal s (e ∷ past)
    → ended_from e.reply (queueing_run past e.who) (option_and_then (unstarted_queueing past) (item_of e))
    ≡ ending past e
ends_from s past e legal = sym (ends_as_told s past e legal ∙ from_reply past e.who (item_of e) e.reply)

-- ---- what starts

pub starts_from : (s : Layout) (past : List Entry) (e : Entry) → IsLegal s (e ∷ past) → IsLegal s past
    → started_from e.reply (next_for s past e.who) ≡ starting past e
starts_from s past e legal before = by e.reply refl
  where
    at : (n : ℕ) → number_started e.reply ≡ Some n → next_for s past e.who ≡ starting past e
    at n h =
        let k = starts_next s past e n legal h in
        let x = k.queueing in
        let found : queueing_at past x.number ≡ Some x =
        found_unstarted past x.item.0 x (next_unstarted s past before k.worker.pool x k.is_next) in
        ap (next_for s past) k.by_worker
        ∙ (k.is_next ∙ sym (ap (option_and_then (queueing_at past)) (h ∙ ap Some (sym k.number)) ∙ found))

    by : (r : Reply) → e.reply ≡ r → started_from r (next_for s past e.who) ≡ starting past e
    by (reply.Started n) is = at n (ap number_started is)
    by (reply.StartedEnlist n x) is = at n (ap number_started is)
    by r is = sym (ap (λ v. option_and_then (queueing_at past) (number_started v)) is)

-- ---- where an item is queued

pub cpu_of_run : (s : Layout) (past : List Entry) (i : ℕ) (x : Queueing) (cpu : CpuId) → IsLegal s past
    → run_open past i ≡ Some x → x.place.cpu ≡ cpu_for past i cpu
cpu_of_run s past i x cpu legal h = by (item_run past i) refl
  where
    by : (o : Option Start) → item_run past i ≡ o → x.place.cpu ≡ cpu_for past i cpu
    by None is = let bad : None ≡ Some x = sym (ap (option_and_then (λ (t : Start). queueing_at past t.number)) is)
        ∙ h in cc
    by (Some t) is =
        let r = runs_are_queueings s past legal i t is in
        let same : r.queueing ≡ x =
        same_Some r.queueing x
        (sym r.found ∙ (sym (ap (option_and_then (λ (u : Start). queueing_at past u.number)) is) ∙ h)) in
        ap (λ (y : Queueing). y.place.cpu) (sym same)
        ∙ (ap (λ (p : PoolId). p.cpu) r.pool
        ∙ sym (ap (λ o. option_map_or (λ (u : Start). u.worker.pool.cpu) o cpu) is))

pub cpu_of_none : (s : Layout) (past : List Entry) (i : ℕ) (cpu : CpuId) → IsLegal s past → run_open past i ≡ None
    → cpu ≡ cpu_for past i cpu
cpu_of_none s past i cpu legal h = by (item_run past i) refl
  where
    by : (o : Option Start) → item_run past i ≡ o → cpu ≡ cpu_for past i cpu
    by None is = sym (ap (λ o. option_map_or (λ (u : Start). u.worker.pool.cpu) o cpu) is)
    by (Some t) is = let r = runs_are_queueings s past legal i t is in let bad : None ≡ Some r.queueing =
        sym h ∙ (ap (option_and_then (λ (u : Start). queueing_at past u.number)) is ∙ r.found) in cc

-- ---- what is owed

not_early : (s : Layout) (past : List Entry) (who : Who) (x : Queueing) → IsLegal s past
    → queueing_run past who ≡ Some x → has_not_started past x ≡ false
not_early s past (Caller c) x legal h = cc
not_early s past (Worker w) x legal h = by (run past w) refl h
  where
    by : (o : Option ℕ) → run past w ≡ o → option_and_then (queueing_at past) (run past w) ≡ Some x
        → has_not_started past x ≡ false
    by None is k = let bad : None ≡ Some x = sym (ap (option_and_then (queueing_at past)) is) ∙ k in cc
    by (Some n) is k =
        let at : queueing_at past n ≡ Some x = sym (ap (option_and_then (queueing_at past)) is) ∙ k in
        ap (λ m. not (is_started past m)) (found_number past n x at)
        ∙ ap not (last_started past w n (run_is past w n is).last)

early : (past : List Entry) (i : Option ℕ) (x : Queueing) → option_and_then (unstarted_queueing past) i ≡ Some x
    → has_not_started past x ≡ true
early past None x h = cc
early past (Some i) x h =
    (and_parts (x.item.0 == i) (not (is_started past x.number)) (found (is_unstarted past i) (still_open past) x h).1).1

pub ends_early_is : (s : Layout) (past : List Entry) (e : Entry) → IsLegal s (e ∷ past) → IsLegal s past
    → ends_early e.reply (ending past e) ≡ ends_unstarted past e
ends_early_is s past e legal before =
    ap (ends_early e.reply) (sym from) ∙ (by e.reply ∙ ap (λ o. option_map_or (has_not_started past) o false) from)
  where
    from : ended_from e.reply (queueing_run past e.who) (option_and_then (unstarted_queueing past) (item_of e))
        ≡ ending past e
    from = ends_from s past e legal

    ran : (o : Option Queueing) → queueing_run past e.who ≡ o → false ≡ option_map_or (has_not_started past) o false
    ran None h = refl
    ran (Some x) h = sym (not_early s past e.who x before h)

    waited : (o : Option Queueing) → option_and_then (unstarted_queueing past) (item_of e) ≡ o
        → is_some o ≡ option_map_or (has_not_started past) o false
    waited None h = refl
    waited (Some x) h = sym (early past (item_of e) x h)

    by : (r : Reply)
        → ends_early r (ended_from r (queueing_run past e.who) (option_and_then (unstarted_queueing past) (item_of e)))
        ≡ option_map_or (has_not_started past)
        (ended_from r (queueing_run past e.who) (option_and_then (unstarted_queueing past) (item_of e))) false
    by (reply.Finished n) = ran (queueing_run past e.who) refl
    by (reply.Cancelled n) = waited (option_and_then (unstarted_queueing past) (item_of e)) refl
    by (reply.TicketCancelled k n) = waited (option_and_then (unstarted_queueing past) (item_of e)) refl
    by (reply.Again k) = waited (option_and_then (unstarted_queueing past) (item_of e)) refl
    by (reply.Rebooked d) = waited (option_and_then (unstarted_queueing past) (item_of e)) refl
    by r = refl

pub owes_with : (s : Layout) (past : List Entry) (e : Entry) (ended opened : Option Queueing) (booked : Option Booking)
    (unbooked : Bool) → IsLegal s (e ∷ past) → IsLegal s past → ended ≡ ending past e → opened ≡ opening past e
    → booked ≡ booking_of e (length past) →
    unbooked ≡ settles_booked past e →
    owed s (e ∷ past) + (paid_alone e.reply + 2 * one (ends_early e.reply ended) + 3 * one unbooked)
    ≡ owed s past + (taken_alone e.reply + 2 * one (is_some opened) + 3 * one (is_some booked))
owes_with s past e ended opened booked unbooked legal before ends opens_it books un =
    let law = owed_goes_on s past e legal in
    let a : one (ends_early e.reply ended) ≡ one (ends_unstarted past e) =
    ap one (ap (ends_early e.reply) ends ∙ ends_early_is s past e legal before) in
    let b : one unbooked ≡ one (settles_booked past e) = ap one un in
    let o : one (is_some opened) ≡ one (is_some (opening past e)) = ap (λ x. one (is_some x)) opens_it in
    let k : one (is_some booked) ≡ one (is_some (booking_of e (length past))) = ap (λ x. one (is_some x)) books in
    omega (arith, law, a, b, o, k)

-- the sum, as it is made
pub owing_sum : (owing old new t o b p e u t1 o1 b1 p1 e1 u1 : ℕ)
    → new + (p1 + 2 * e1 + 3 * u1) ≡ old + (t1 + 2 * o1 + 3 * b1) → owing ≡ old → t ≡ t1 → o ≡ o1 → b ≡ b1 → p ≡ p1
    → e ≡ e1 → u ≡ u1 →
    (p + 2 * e + 3 * u ≤ owing + (t + 2 * o + 3 * b)) × (owing + (t + 2 * o + 3 * b) - (p + 2 * e + 3 * u) ≡ new)
owing_sum owing old new t o b p e u t1 o1 b1 p1 e1 u1 law was ht ho hb hp he hu = (omega arith, omega arith)

-- ---- the item of an entry, and the numbers of a call that fits

pub entry_inside : (s : Layout) (past : List Entry) (e : Entry) → IsLegal s (e ∷ past) → IsInside s e
entry_inside s past e legal = (entries_apply_to_timers s past e legal).item

pub call_inside : (s : Layout) (who : Who) (c : Call) → fits s who c ≡ true → IsCallInside s c
call_inside s who c fit = by c (and_parts (may_make s who c) (has_numbers s c) fit).1
  where
    by : (c : Call) → has_numbers s c ≡ true → IsCallInside s c
    by (call.Queue i q k) h = let f = place_fits s i.0 q.0 k.0 h in (f.0, f.1)
    by (call.Delay i q k t) h = let f = place_fits s i.0 q.0 k.0 h in (f.0, f.1)
    by (call.Modify i q k t) h = let f = place_fits s i.0 q.0 k.0 h in (f.0, f.1)
    by (call.Cancel i) h = ltb-true i.0 s.items h
    by (call.Flush q) h = ltb-true q.0 (length s.queues) h
    by (call.Drain q) h = ltb-true q.0 (length s.queues) h
    by (call.FlushItem i) h = ltb-true i.0 s.items h
    by (call.FlushDelayed i) h = ltb-true i.0 s.items h
    by (call.CancelSync i) h = ltb-true i.0 s.items h
    by (call.SetMax q n) h = ltb-true q.0 (length s.queues) (and_parts (nat_lt q.0 (length s.queues)) (nat_le 1 n) h).0
    by (call.Destroy q) h = ltb-true q.0 (length s.queues) h
    by c h = tt

pub legal_there : (s : Layout) (past : List Entry) (e : Entry) → IsLegal s (e ∷ past) → IsThere s e.who
unfolding IsLegal
legal_there s past e legal = fits_there s e.who e.call legal.0
