-- Why a call is answered as it is: each answer that changes anything, with what holds before it.
use Rattle.cmwq_theory_steps.specs.Common.{◌≡◌, ◌+◌, ◌==◌, ℕ, Bool, true, false, not, ◌||◌, if◌then◌else◌, List, ◌∷◌}
use Rattle.cmwq_theory_steps.specs.Common.{length, Option, Some, None, nat_lt, min, refl, sym, subst, CpuId, ItemId}
use Rattle.cmwq_theory_steps.specs.Common.{QueueId, WorkerId, Who, Caller, Worker, Call, Reply, Entry, Booking}
use Rattle.cmwq_theory_steps.specs.Common.{Queueing, Ticket, Layout, now, is_booked, standing_bookings, run, has_run}
use Rattle.cmwq_theory_steps.specs.Common.{runs_awake, runs_asleep, unstarted_queueing, is_pending, is_item_open}
use Rattle.cmwq_theory_steps.specs.Common.{runs_elsewhere, next, is_enlisted, runnable, enlisted_by, may_retire}
use Rattle.cmwq_theory_steps.specs.Common.{is_cancelling, is_being_destroyed, is_gone, is_crowded, ticket_of, is_frozen}
use Rattle.cmwq_theory_steps.specs.Common.{waits_for, answer, wait_answer, destroy_answer, set_max_answer, is_booked_on}
use Rattle.cmwq_theory_steps.specs.Common.{may_call, is_shut, cancel_answer, taken_back_answer, first_due, fired_answer}
use Rattle.cmwq_theory_steps.specs.Common.{flush_item_answer, is_held_back, flush_delayed_answer, cancel_sync_answer}
use Rattle.cmwq_theory_steps.specs.Common.{taken_back_for, end_of_ticket, waiting_for, started_answer, start_of}
use Rattle.cmwq_theory_steps.specs.Common.{queue_answer, modify_answer, take_answer, finished_answer, finish_answer}
use Rattle.cmwq_theory_steps.specs.Common.{retire_answer, IsLegal, list_any}
use Rattle.cmwq_theory_steps.proofs.Lemmas.{not-false, or_parts}
use Rattle.cmwq_model.specs.declared.call.Call.TheVariants as call
use Rattle.cmwq_model.specs.declared.reply.Reply.TheVariants as reply
use Rattle.cmwq_theory_steps.proofs.Inversions.{answer_is}

-- what queue, delay and modify take for granted before they change anything
pub record IsFree (past : List Entry) (who : Who) (i q t : ℕ) : Type 0 where
  pub awake : may_call past who ≡ true
  pub not_gone : is_gone past q ≡ false
  pub not_cancelling : is_cancelling past i ≡ false
  pub not_foreign : runs_elsewhere past i q ≡ false
  pub not_shut : is_shut past who q t ≡ false

pub data Cause (s : Layout) (past : List Entry) : Who → Call → Reply → Type 0 where
  misuse : (who : Who) (c : Call) → Cause s past who c reply.Misuse
  no : (who : Who) (c : Call) → Cause s past who c reply.No
  foreign : (who : Who) (c : Call) → Cause s past who c reply.Foreign
  draining : (who : Who) (c : Call) → Cause s past who c reply.Draining
  nothing : (who : Who) (c : Call) → Cause s past who c reply.Nothing
  idle : (who : Who) (c : Call) → Cause s past who c reply.Idle
  crowded : (who : Who) (c : Call) → Cause s past who c reply.Crowded
  waiting : (who : Who) (k : ℕ) (t : Ticket) (n : ℕ) → waits_for past t.number t.call ≡ Some n
      → Cause s past who (call.End k) (reply.Waiting n)
  held : (who : Who) (c : Call) → Cause s past who c reply.Held
  kept : (who : Who) (c : Call) → Cause s past who c reply.Kept
  gone : (who : Who) (c : Call) → Cause s past who c reply.Gone
  timers : (who : Who) (c : Call) → Cause s past who c reply.Timers
  queued : (who : Who) (i : ItemId) (q : QueueId) (c : CpuId) → IsFree past who i.0 q.0 0 → is_pending past i.0 ≡ false
      → Cause s past who (call.Queue i q c) (reply.Yes (length past))
  delayed_by_none : (who : Who) (i : ItemId) (q : QueueId) (c : CpuId) (t : ℕ) → (t == 0) ≡ true
      → IsFree past who i.0 q.0 t → is_pending past i.0 ≡ false
      → Cause s past who (call.Delay i q c t) (reply.Yes (length past))
  delayed : (who : Who) (i : ItemId) (q : QueueId) (c : CpuId) (t : ℕ) → (t == 0) ≡ false → IsFree past who i.0 q.0 t
      → is_pending past i.0 ≡ false → Cause s past who (call.Delay i q c t) (reply.Booked (now past + t))
  modified_idle : (who : Who) (i : ItemId) (q : QueueId) (c : CpuId) (t : ℕ) → (t == 0) ≡ true
      → IsFree past who i.0 q.0 t → is_pending past i.0 ≡ false
      → Cause s past who (call.Modify i q c t) (reply.Yes (length past))
  modified_again : (who : Who) (i : ItemId) (q : QueueId) (c : CpuId) (t : ℕ) → (t == 0) ≡ true
      → IsFree past who i.0 q.0 t → is_pending past i.0 ≡ true
      → Cause s past who (call.Modify i q c t) (reply.Again (length past))
  modified_booked : (who : Who) (i : ItemId) (q : QueueId) (c : CpuId) (t : ℕ) → (t == 0) ≡ false
      → IsFree past who i.0 q.0 t → is_pending past i.0 ≡ false
      → Cause s past who (call.Modify i q c t) (reply.Booked (now past + t))
  modified_rebooked : (who : Who) (i : ItemId) (q : QueueId) (c : CpuId) (t : ℕ) → (t == 0) ≡ false
      → IsFree past who i.0 q.0 t → is_pending past i.0 ≡ true
      → Cause s past who (call.Modify i q c t) (reply.Rebooked (now past + t))
  cancelled : (who : Who) (i : ItemId) (x : Queueing) → unstarted_queueing past i.0 ≡ Some x
      → Cause s past who (call.Cancel i) (reply.Cancelled x.number)
  unbooked : (who : Who) (i : ItemId) → unstarted_queueing past i.0 ≡ None → is_booked past i.0 ≡ true
      → Cause s past who (call.Cancel i) reply.Unbooked
  told : (who : Who) (t : ℕ) → Cause s past who (call.Tick t) (reply.Now (now past + t))
  fires : (who : Who) (b : Booking) → first_due past ≡ Some b
      → Cause s past who call.Fire (reply.Fired b.item (length past))
  flushed : (who : Who) (q : QueueId) → is_crowded past who ≡ false → is_gone past q.0 ≡ false
      → Cause s past who (call.Flush q) (reply.Ticket (length past))
  drained : (who : Who) (q : QueueId) → is_crowded past who ≡ false → is_gone past q.0 ≡ false
      → Cause s past who (call.Drain q) (reply.Ticket (length past))
  destroyed : (who : Who) (q : QueueId) → is_crowded past who ≡ false → is_gone past q.0 ≡ false
      → is_being_destroyed past q.0 ≡ false → list_any (is_booked_on q.0) (standing_bookings past) ≡ false
      → Cause s past who (call.Destroy q) (reply.Ticket (length past))
  widened : (who : Who) (q : QueueId) (n : ℕ) → is_gone past q.0 ≡ false
      → Cause s past who (call.SetMax q n) (reply.Width (min n 512))
  freezes : (who : Who) → is_frozen past ≡ false → Cause s past who call.Freeze reply.Frozen
  thaws : (who : Who) → is_frozen past ≡ true → Cause s past who call.Thaw reply.Thawed
  item_flushed : (who : Who) (i : ItemId) → is_crowded past who ≡ false → is_item_open past i.0 ≡ true
      → Cause s past who (call.FlushItem i) (reply.Ticket (length past))
  delayed_queued : (who : Who) (i : ItemId) → is_crowded past who ≡ false → is_held_back past i.0 ≡ false
      → is_booked past i.0 ≡ true → Cause s past who (call.FlushDelayed i) (reply.TicketQueued (length past))
  delayed_flushed : (who : Who) (i : ItemId) → is_crowded past who ≡ false → is_booked past i.0 ≡ false
      → is_item_open past i.0 ≡ true → Cause s past who (call.FlushDelayed i) (reply.Ticket (length past))
  sync_cancelled : (who : Who) (i : ItemId) (x : Queueing) → is_crowded past who ≡ false
      → unstarted_queueing past i.0 ≡ Some x
      → Cause s past who (call.CancelSync i) (reply.TicketCancelled (length past) x.number)
  sync_unbooked : (who : Who) (i : ItemId) → is_crowded past who ≡ false → unstarted_queueing past i.0 ≡ None
      → is_booked past i.0 ≡ true → Cause s past who (call.CancelSync i) (reply.TicketUnbooked (length past))
  sync_waits : (who : Who) (i : ItemId) → is_crowded past who ≡ false → unstarted_queueing past i.0 ≡ None
      → is_booked past i.0 ≡ false → Cause s past who (call.CancelSync i) (reply.TicketNo (length past))
  ended : (who : Who) (n : ℕ) (t : Ticket) → ticket_of past who n ≡ Some t → waits_for past t.number t.call ≡ None
      → Cause s past who (call.End n) reply.Done
  starts : (w : WorkerId) (x : Queueing) → is_enlisted past w ≡ true → has_run past w ≡ false
      → next s past w.pool ≡ Some x → nat_lt 0 (runnable s past w.pool) ≡ false → enlisted_by s past w ≡ None
      → Cause s past (Worker w) call.Take (reply.Started x.number)
  enlists : (w : WorkerId) (x : Queueing) (y : ℕ) → is_enlisted past w ≡ true → has_run past w ≡ false
      → next s past w.pool ≡ Some x → nat_lt 0 (runnable s past w.pool) ≡ false → enlisted_by s past w ≡ Some y
      → Cause s past (Worker w) call.Take (reply.StartedEnlist x.number y)
  finishes : (w : WorkerId) (n : ℕ) → runs_awake past w ≡ true → run past w ≡ Some n
      → Cause s past (Worker w) call.Finish (reply.Finished n)
  sleeps : (w : WorkerId) → runs_awake past w ≡ true → Cause s past (Worker w) call.Sleep reply.Slept
  wakes : (w : WorkerId) → runs_asleep past w ≡ true → Cause s past (Worker w) call.Wake reply.Woke
  retires : (w : WorkerId) → is_enlisted past w ≡ true → has_run past w ≡ false → may_retire s past w.pool ≡ true
      → Cause s past (Worker w) call.Retire reply.Retired

-- ---- a reply that goes by tests

module _ {s : Layout} {past : List Entry} {who : Who} {c : Call} where
  by_test : (f : Bool → Reply) (b : Bool) → (b ≡ true → Cause s past who c (f true))
      → (b ≡ false → Cause s past who c (f false)) → Cause s past who c (f b)
  by_test f true when otherwise = when refl
  by_test f false when otherwise = otherwise refl

  tested : (b : Bool) {x y : Reply} → (b ≡ true → Cause s past who c x) → (b ≡ false → Cause s past who c y)
      → Cause s past who c (if b then x else y)
  tested b {x} {y} = by_test (λ t. if t then x else y) b

  -- what queue, delay and modify ask first, and what last
  called_cause : (i q : ℕ) {r : Reply}
      → (may_call past who ≡ true → is_gone past q ≡ false → is_cancelling past i ≡ false → Cause s past who c r)
      → Cause s past who c (if not (may_call past who) then reply.Misuse else if is_gone past q then reply.Gone
      else if is_cancelling past i then reply.No else r)
  called_cause i q next =
      tested (not (may_call past who)) (λ a. misuse who c)
      (λ a. tested (is_gone past q) (λ g. gone who c)
      (λ g. tested (is_cancelling past i) (λ b. no who c) (next (not-false _ a) g)))

  free_cause : (i q t : ℕ) {r : Reply}
      → (runs_elsewhere past i q ≡ false → is_shut past who q t ≡ false → Cause s past who c r)
      → Cause s past who c (if runs_elsewhere past i q then reply.Foreign else if is_shut past who q t
      then reply.Draining else r)
  free_cause i q t next =
      tested (runs_elsewhere past i q) (λ d. foreign who c)
      (λ d. tested (is_shut past who q t) (λ e. draining who c) (next d))

  queue_cause : (i q t : ℕ) {r : Reply} → (IsFree past who i q t → is_pending past i ≡ false → Cause s past who c r)
      → Cause s past who c (if not (may_call past who) then reply.Misuse else if is_gone past q then reply.Gone
      else if is_cancelling past i then reply.No else if is_pending past i then reply.No
      else if runs_elsewhere past i q then reply.Foreign else if is_shut past who q t then reply.Draining else r)
  queue_cause i q t free =
      called_cause i q
      (λ a g b. tested (is_pending past i) (λ p. no who c)
      (λ p. free_cause i q t
      (λ d e. free (record { awake = a; not_gone = g; not_cancelling = b; not_foreign = d; not_shut = e }) p)))

  -- by what is held, if anything
  by_held : {X : Type 0} (f : Option X → Reply) (o : Option X)
      → ((x : X) → o ≡ Some x → Cause s past who c (f (Some x))) → (o ≡ None → Cause s past who c (f None))
      → Cause s past who c (f o)
  by_held f (Some x) some otherwise = some x refl
  by_held f None some otherwise = otherwise refl

-- ---- the answer to each call has a cause

pub causes : (s : Layout) (past : List Entry) (who : Who) (c : Call) → Cause s past who c (answer s past who c)
unfolding answer wait_answer destroy_answer set_max_answer cancel_answer flush_item_answer flush_delayed_answer
    cancel_sync_answer finish_answer retire_answer queue_answer modify_answer take_answer
causes s past who (call.Queue i q c) = queue_cause i.0 q.0 0 (queued who i q c)
causes s past who (call.Delay i q c t) =
    queue_cause i.0 q.0 t
    (λ free idle. tested (t == 0) (λ z. delayed_by_none who i q c t z free idle) (λ z. delayed who i q c t z free idle))
causes s past who (call.Modify i q c t) =
    called_cause i.0 q.0
    (λ a g b. free_cause i.0 q.0 t (λ d e. let free : IsFree past who i.0 q.0 t =
    record { awake = a; not_gone = g; not_cancelling = b; not_foreign = d; not_shut = e } in
    tested (is_pending past i.0)
    (λ p. tested (t == 0) (λ z. modified_again who i q c t z free p) (λ z. modified_rebooked who i q c t z free p))
    (λ p. tested (t == 0) (λ z. modified_idle who i q c t z free p) (λ z. modified_booked who i q c t z free p))))
causes s past who (call.Cancel i) =
    tested (not (may_call past who)) (λ a. misuse who _)
    (λ a. by_held (λ o. taken_back_answer o (is_booked past i.0)) (unstarted_queueing past i.0) (cancelled who i)
    (λ o. by_test (taken_back_answer None) (is_booked past i.0) (unbooked who i o) (λ b. no who _)))
causes s past who (call.Tick t) = told who t
causes s past who call.Fire =
    by_held (λ o. fired_answer o (length past)) (first_due past) (fires who) (λ o. nothing who _)
causes s past who (call.Flush q) =
    tested (is_gone past q.0) (λ g. gone who _)
    (λ g. tested (is_crowded past who) (λ b. crowded who _) (λ b. flushed who q b g))
causes s past who (call.Drain q) =
    tested (is_gone past q.0) (λ g. gone who _)
    (λ g. tested (is_crowded past who) (λ b. crowded who _) (λ b. drained who q b g))
causes s past who (call.FlushItem i) =
    tested (is_crowded past who) (λ b. crowded who _)
    (λ b. tested (is_item_open past i.0) (λ o. item_flushed who i b o) (λ o. idle who _))
causes s past who (call.FlushDelayed i) =
    tested (is_crowded past who) (λ b. crowded who _)
    (λ b. tested (is_held_back past i.0) (λ h. draining who _)
    (λ h. tested (is_booked past i.0) (λ k. delayed_queued who i b h k)
    (λ k. tested (is_item_open past i.0) (λ o. delayed_flushed who i b k o) (λ o. idle who _))))
causes s past who (call.CancelSync i) =
    tested (is_crowded past who) (λ k. crowded who _)
    (λ k. by_held (λ o. taken_back_for (length past) o (is_booked past i.0)) (unstarted_queueing past i.0)
    (λ x. sync_cancelled who i x k)
    (λ o. by_test (taken_back_for (length past) None) (is_booked past i.0) (sync_unbooked who i k o)
    (sync_waits who i k o)))
causes s past who (call.End n) =
    by_held (end_of_ticket past) (ticket_of past who n)
    (λ t h. by_held waiting_for (waits_for past t.number t.call) (waiting who n t) (ended who n t h))
    (λ o. misuse who _)
causes s past (Worker w) call.Take =
    tested (not (is_enlisted past w) || has_run past w) (λ a. misuse (Worker w) _) (λ a. let k = or_parts _ _ a in
    let enlisted = not-false _ k.0 in
    by_held (start_of s past w) (next s past w.pool)
    (λ x found. tested (nat_lt 0 (runnable s past w.pool)) (λ b. held (Worker w) _)
    (λ b. by_held (started_answer x.number) (enlisted_by s past w) (λ y. enlists w x y enlisted k.1 found b)
    (starts w x enlisted k.1 found b))) (λ o. nothing (Worker w) _))
causes s past (Worker w) call.Finish =
    tested (runs_awake past w)
    (λ a. by_held finished_answer (run past w) (λ n. finishes w n a) (λ o. misuse (Worker w) _))
    (λ a. misuse (Worker w) _)
causes s past (Worker w) call.Sleep = tested (runs_awake past w) (sleeps w) (λ a. misuse (Worker w) _)
causes s past (Worker w) call.Wake = tested (runs_asleep past w) (wakes w) (λ a. misuse (Worker w) _)
causes s past (Worker w) call.Retire =
    tested (not (is_enlisted past w) || has_run past w) (λ a. misuse (Worker w) _) (λ a. let k = or_parts _ _ a in
    tested (may_retire s past w.pool) (retires w (not-false _ k.0) k.1) (λ m. kept (Worker w) _))
causes s past who (call.SetMax q n) = tested (is_gone past q.0) (λ g. gone who _) (widened who q n)
causes s past who call.Freeze = tested (is_frozen past) (λ f. no who _) (freezes who)
causes s past who call.Thaw = tested (is_frozen past) (thaws who) (λ f. no who _)
causes s past who (call.Destroy q) =
    tested (is_gone past q.0) (λ g. gone who _)
    (λ g. tested (is_being_destroyed past q.0) (λ d. draining who _)
    (λ d. tested (list_any (is_booked_on q.0) (standing_bookings past)) (λ b. timers who _)
    (λ b. tested (is_crowded past who) (λ k. crowded who _) (λ k. destroyed who q k g d b))))
causes s past (Caller c) own = misuse (Caller c) _

pub cause_of : (s : Layout) (past : List Entry) (e : Entry) → IsLegal s (e ∷ past) → Cause s past e.who e.call e.reply
cause_of s past e legal =
    subst (Cause s past e.who e.call) (sym (answer_is s past e legal)) (causes s past e.who e.call)
