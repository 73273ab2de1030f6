-- Why a legal entry's reply is what it is, read off its cause.
use Rattle.cmwq_theory_steps.specs.Common.{Queueing, enlisted_by, index_enlisted, next, runnable, is_workers, ◌≡◌, ◌+◌}
use Rattle.cmwq_theory_steps.specs.Common.{◌<◌, ◌==◌, ℕ, Bool, true, false, List, ◌∷◌, length, Some, None, nat_lt, refl}
use Rattle.cmwq_theory_steps.specs.Common.{sym, ap, ◌∙◌, subst, arith, IsTrue, ltb-false, eqb-true, nat_tests, CallerId}
use Rattle.cmwq_theory_steps.specs.Common.{ItemId, WorkerId, Who, Caller, Worker, Call, Reply, Entry, Place, Layout}
use Rattle.cmwq_theory_steps.specs.Common.{fits, item_called, now, is_booked, number_started, number_finished}
use Rattle.cmwq_theory_steps.specs.Common.{number_cancelled, has_run, runs_awake, runs_asleep, place_called}
use Rattle.cmwq_theory_steps.specs.Common.{unstarted_queueing, is_pending, is_enlisted, may_retire, gives_ticket}
use Rattle.cmwq_theory_steps.specs.Common.{is_crowded, is_shut, is_held_back, IsLegal}
use Rattle.cmwq_model.specs.declared.call.Call.TheVariants as call
use Rattle.cmwq_model.specs.declared.reply.Reply.TheVariants as reply
use Rattle.cmwq_theory_steps.specs.Reasons.{number_given, StartsNext, FinishesRun, TakesBack, ticks_asked, IsGranted}
use Rattle.cmwq_theory_steps.specs.Reasons.{IsBookedIn, EndsWait, unbooks}
use Rattle.std.proofs.lemmas.Option.{same_Some}
use Rattle.cmwq_theory_steps.proofs.Causes.{Cause, IsFree}
use Rattle.cmwq_theory_steps.proofs.Causes as cause

-- ---- workers

next_started : (s : Layout) (past : List Entry) (w : WorkerId) (x : Queueing) (r : Reply) (n : ℕ)
    → is_enlisted past w ≡ true → has_run past w ≡ false → next s past w.pool ≡ Some x
    → nat_lt 0 (runnable s past w.pool) ≡ false → Some x.number ≡ Some n
    → index_enlisted r ≡ enlisted_by s past w → StartsNext s past (Worker w) call.Take r n
next_started s past w x r n enlisted idle found clear same index = record {
  worker = w;
  queueing = x;
  by_worker = refl;
  is_take = refl;
  enlisted = enlisted;
  idle = idle;
  is_next = found;
  is_clear = omega (arith, ltb-false 0 (runnable s past w.pool) clear);
  number = same_Some x.number n same;
  enlists = index;
}

pub start_reason : (s : Layout) (past : List Entry) (who : Who) (c : Call) (r : Reply) (n : ℕ) → Cause s past who c r
    → number_started r ≡ Some n → StartsNext s past who c r n
start_reason s past who c r n (cause.starts w x enlisted idle found clear none) h =
    next_started s past w x _ n enlisted idle found clear h (sym none)
start_reason s past who c r n (cause.enlists w x y enlisted idle found clear some) h =
    next_started s past w x _ n enlisted idle found clear h (sym some)
start_reason s past who c r n other h = cc

pub finish_reason : (s : Layout) (past : List Entry) (who : Who) (c : Call) (r : Reply) (n : ℕ) → Cause s past who c r
    → number_finished r ≡ Some n → FinishesRun past who c n
finish_reason s past who c r n (cause.finishes w m awake runs) h =
    record { worker = w; by_worker = refl; is_finish = refl; awake = awake; is_run = runs ∙ h }
finish_reason s past who c r n other h = cc

pub sleep_reason : (s : Layout) (past : List Entry) (who : Who) (c : Call) (r : Reply) → Cause s past who c r
    → r ≡ reply.Slept → (w : WorkerId) × (who ≡ Worker w) × (c ≡ call.Sleep) × (runs_awake past w ≡ true)
sleep_reason s past who c r (cause.sleeps w awake) h = (w, refl, refl, awake)
sleep_reason s past who c r other h = cc

pub wake_reason : (s : Layout) (past : List Entry) (who : Who) (c : Call) (r : Reply) → Cause s past who c r
    → r ≡ reply.Woke → (w : WorkerId) × (who ≡ Worker w) × (c ≡ call.Wake) × (runs_asleep past w ≡ true)
wake_reason s past who c r (cause.wakes w asleep) h = (w, refl, refl, asleep)
wake_reason s past who c r other h = cc

pub retire_reason : (s : Layout) (past : List Entry) (who : Who) (c : Call) (r : Reply) → Cause s past who c r
    → r ≡ reply.Retired
    → (w : WorkerId) × (who ≡ Worker w) × (c ≡ call.Retire) × (is_enlisted past w ≡ true) × (has_run past w ≡ false)
    × (may_retire s past w.pool ≡ true)
retire_reason s past who c r (cause.retires w enlisted idle may) h = (w, refl, refl, enlisted, idle, may)
retire_reason s past who c r other h = cc

-- ---- items

granted : (past : List Entry) (who : Who) (c : Call) (t u : ℕ) (pending : Bool) (i : ItemId) (p : Place)
    → item_called c ≡ Some i.0 → place_called c ≡ Some p → ticks_asked c ≡ Some t → t ≡ u
    → IsFree past who i.0 p.queue.0 t → is_pending past i.0 ≡ pending
    → IsGranted past who c u pending
granted past who c t u pending i p item place ticks same free was = record {
  item = i.0;
  place = p;
  is_item = item;
  is_place = place;
  is_ticks = ticks ∙ ap Some same;
  awake = free.awake;
  not_cancelling = free.not_cancelling;
  not_foreign = free.not_foreign;
  not_shut = subst (λ n. is_shut past who p.queue.0 n ≡ false) same free.not_shut;
  was_pending = was;
}

pub queue_reason : (s : Layout) (past : List Entry) (who : Who) (c : Call) (r : Reply) (k : ℕ) → Cause s past who c r
    → r ≡ reply.Yes k → (k ≡ length past) × IsGranted past who c 0 false
queue_reason s past who c r k (cause.queued w i q d free idle) h =
    (cc, granted past w _ 0 0 false i (record { queue = q; cpu = d }) refl refl refl refl free idle)
queue_reason s past who c r k (cause.delayed_by_none w i q d t zero free idle) h =
    (cc, granted past w _ t 0 false i (record { queue = q; cpu = d }) refl refl refl (eqb-true t 0 zero) free idle)
queue_reason s past who c r k (cause.modified_idle w i q d t zero free idle) h =
    (cc, granted past w _ t 0 false i (record { queue = q; cpu = d }) refl refl refl (eqb-true t 0 zero) free idle)
queue_reason s past who c r k other h = cc

pub again_reason : (s : Layout) (past : List Entry) (who : Who) (c : Call) (r : Reply) (k : ℕ) → Cause s past who c r
    → r ≡ reply.Again k → (k ≡ length past) × IsGranted past who c 0 true
again_reason s past who c r k (cause.modified_again w i q d t zero free was) h =
    (cc, granted past w _ t 0 true i (record { queue = q; cpu = d }) refl refl refl (eqb-true t 0 zero) free was)
again_reason s past who c r k other h = cc

some_ticks : (t : ℕ) → (t == 0) ≡ false → 0 < t
some_ticks t h = grind (arith, nat_tests)

pub book_reason : (s : Layout) (past : List Entry) (who : Who) (c : Call) (r : Reply) (d : ℕ) → Cause s past who c r
    → r ≡ reply.Booked d → IsBookedIn past who c d false
book_reason s past who c r d (cause.delayed w i q p t some free idle) h =
    record {
      ticks = t;
      some_ticks = some_ticks t some;
      is_due = cc;
      granted =
          granted past w _ t t false i (record { queue = q; cpu = p }) refl refl refl refl free idle;
    }
book_reason s past who c r d (cause.modified_booked w i q p t some free idle) h =
    record {
      ticks = t;
      some_ticks = some_ticks t some;
      is_due = cc;
      granted =
          granted past w _ t t false i (record { queue = q; cpu = p }) refl refl refl refl free idle;
    }
book_reason s past who c r d other h = cc

pub rebook_reason : (s : Layout) (past : List Entry) (who : Who) (c : Call) (r : Reply) (d : ℕ) → Cause s past who c r
    → r ≡ reply.Rebooked d → IsBookedIn past who c d true
rebook_reason s past who c r d (cause.modified_rebooked w i q p t some free was) h =
    record {
      ticks = t;
      some_ticks = some_ticks t some;
      is_due = cc;
      granted =
          granted past w _ t t true i (record { queue = q; cpu = p }) refl refl refl refl free was;
    }
rebook_reason s past who c r d other h = cc

pub flush_delayed_reason : (s : Layout) (past : List Entry) (who : Who) (c : Call) (r : Reply) (k : ℕ)
    → Cause s past who c r → r ≡ reply.TicketQueued k → (i : ItemId) × (c ≡ call.FlushDelayed i)
    × (is_booked past i.0 ≡ true) × (is_held_back past i.0 ≡ false)
flush_delayed_reason s past who c r k (cause.delayed_queued w i free clear was) h = (i, refl, was, clear)
flush_delayed_reason s past who c r k other h = cc

pub cancel_reason : (s : Layout) (past : List Entry) (who : Who) (c : Call) (r : Reply) (n : ℕ) → Cause s past who c r
    → number_cancelled r ≡ Some n → TakesBack past c n
cancel_reason s past who c r n (cause.cancelled w i x found) h =
    record {
      item = i.0;
      queueing = x;
      is_item = refl;
      is_unstarted = found;
      number = let same : x.number ≡ n = cc in
          same;
    }
cancel_reason s past who c r n (cause.sync_cancelled w i x free found) h =
    record {
      item = i.0;
      queueing = x;
      is_item = refl;
      is_unstarted = found;
      number = let same : x.number ≡ n = cc in
          same;
    }
cancel_reason s past who c r n other h = cc

pub unbook_reason : (s : Layout) (past : List Entry) (who : Who) (c : Call) (r : Reply) → Cause s past who c r
    → unbooks r ≡ true → (i : ℕ) × (item_called c ≡ Some i) × (is_booked past i ≡ true)
    × (unstarted_queueing past i ≡ None)
unbook_reason s past who c r (cause.unbooked w i none was) h = (i.0, refl, was, none)
unbook_reason s past who c r (cause.sync_unbooked w i free none was) h = (i.0, refl, was, none)
unbook_reason s past who c r other h = cc

-- ---- tickets and time

record GivesTicket (past : List Entry) (who : Who) (c : Call) (r : Reply) : Type 0 where
  free : is_crowded past who ≡ false
  number : number_given r ≡ Some (length past)
  is_call : is_workers c ≡ false

gives : (s : Layout) (past : List Entry) (who : Who) (c : Call) (r : Reply) → Cause s past who c r
    → gives_ticket r ≡ true → GivesTicket past who c r
gives s past who c r (cause.flushed w q free there) h = record { free = free; number = refl; is_call = refl }
gives s past who c r (cause.drained w q free there) h = record { free = free; number = refl; is_call = refl }
gives s past who c r (cause.destroyed w q free there new none) h = record { free = free; number = refl; is_call = refl }
gives s past who c r (cause.item_flushed w i free some) h = record { free = free; number = refl; is_call = refl }
gives s past who c r (cause.delayed_queued w i free clear was) h = record { free = free; number = refl; is_call = refl }
gives s past who c r (cause.delayed_flushed w i free none some) h =
    record { free = free; number = refl; is_call = refl }
gives s past who c r (cause.sync_cancelled w i x free found) h = record { free = free; number = refl; is_call = refl }
gives s past who c r (cause.sync_unbooked w i free none was) h = record { free = free; number = refl; is_call = refl }
gives s past who c r (cause.sync_waits w i free none idle) h = record { free = free; number = refl; is_call = refl }
gives s past who c r other h = cc

caller_makes : (s : Layout) (who : Who) (c : Call) → is_workers c ≡ false → IsTrue (fits s who c)
    → (caller : CallerId) × (who ≡ Caller caller)
caller_makes s (Caller d) c k fit = (d, refl)
caller_makes s (Worker w) c k fit = absurd (grind arith)

pub legal_fits : (s : Layout) (past : List Entry) (e : Entry) → IsLegal s (e ∷ past) → IsTrue (fits s e.who e.call)
unfolding IsLegal
legal_fits s past e legal = legal.0

pub ticket_reason : (s : Layout) (past : List Entry) (who : Who) (c : Call) (r : Reply) → IsTrue (fits s who c)
    → Cause s past who c r → gives_ticket r ≡ true
    → (caller : CallerId) × (who ≡ Caller caller) × (is_crowded past who ≡ false)
    × (number_given r ≡ Some (length past))
ticket_reason s past who c r fit k h =
    let g = gives s past who c r k h in
    let caller = caller_makes s who c g.is_call fit in
    (caller.0, caller.1, g.free, g.number)

pub done_reason : (s : Layout) (past : List Entry) (who : Who) (c : Call) (r : Reply) → Cause s past who c r
    → r ≡ reply.Done → EndsWait past who c
done_reason s past who c r (cause.ended w n t found ready) h =
    record { number = n; ticket = t; is_end = refl; stands = found; ready = ready }
done_reason s past who c r other h = cc

pub tick_reason : (s : Layout) (past : List Entry) (who : Who) (c : Call) (r : Reply) (d : ℕ) → Cause s past who c r
    → r ≡ reply.Now d → (t : ℕ) × (c ≡ call.Tick t) × (d ≡ now past + t)
tick_reason s past who c r d (cause.told w t) h = (t, refl, cc)
tick_reason s past who c r d other h = cc

-- a reply that opens a queueing or gives a ticket names the entry's own number
pub number_reason : (s : Layout) (past : List Entry) (who : Who) (c : Call) (r : Reply) (k : ℕ) → Cause s past who c r
    → number_given r ≡ Some k → k ≡ length past
number_reason s past who c r k (cause.queued w i q d free idle) h = cc
number_reason s past who c r k other h = cc
