-- Whether what a worker runs is awake, after one more entry.
use Rattle.cmwq_theory_steps.specs.Common.{◌≡◌, ◌&&◌, ◌∷◌, ◌∙◌, ℕ, Bool, true, false, not, List, Option, Some}
use Rattle.cmwq_theory_steps.specs.Common.{None}
use Rattle.cmwq_theory_steps.specs.Common.{refl, ap, ap₂, if◌then◌else◌, is_some, Who, Worker, WorkerId}
use Rattle.cmwq_theory_steps.specs.Common.{Call, Reply, Entry, Layout, Queueing, fits, is_by}
use Rattle.cmwq_theory_steps.specs.Common.{asleep_after, has_run, run, runs_asleep, runs_awake, finished_answer}
use Rattle.cmwq_theory_steps.specs.Common.{number_started, taken_back_answer}
use Rattle.cmwq_theory_steps.specs.Common.{◌+◌, ◌==◌, is_booked, is_cancelling, is_gone, is_pending, is_shut, length}
use Rattle.cmwq_theory_steps.specs.Common.{may_call, now, runs_elsewhere, unstarted_queueing}
unfoldable use Rattle.cmwq_model.specs.Prelude.{IsLegal, answer, cancel_answer, finish_answer, is_asleep, modify_answer}
unfoldable use Rattle.cmwq_model.specs.Prelude.{queue_answer}
use Rattle.cmwq_model.specs.Prelude.{entry_for}
use Rattle.cmwq_model.specs.declared.call.Call.TheVariants as call
use Rattle.cmwq_model.specs.declared.reply.Reply.TheVariants as reply
use Rattle.cmwq_theory_steps.specs.RoomSteps.{is_promised}
use Rattle.cmwq_theory_steps.specs.RunSteps.{run_after}
use Rattle.cmwq_theory_steps.proofs.ItemRuns.{same_worker_itself}
use Rattle.cmwq_theory_steps.proofs.RunSteps.{workers_run_on}

-- what it runs is as awake as before
pub record IsAsAwake (old new : List Entry) (w : WorkerId) : Type 0 where
  pub awake : runs_awake new w ≡ runs_awake old w
  pub asleep : runs_asleep new w ≡ runs_asleep old w

pub awake_itself : (past : List Entry) (w : WorkerId) → IsAsAwake past past w
awake_itself past w = record { awake = refl; asleep = refl }

pub awake_further : (a b c : List Entry) (w : WorkerId) → IsAsAwake a b w → IsAsAwake b c w → IsAsAwake a c w
awake_further a b c w x y = record { awake = y.awake ∙ x.awake; asleep = y.asleep ∙ x.asleep }

both_kept : (past : List Entry) (e : Entry) (w : WorkerId) → run (e ∷ past) w ≡ run past w
    → is_asleep (e ∷ past) w ≡ is_asleep past w → IsAsAwake past (e ∷ past) w
both_kept past e w r a = record {
  awake = ap₂ (λ o b. is_some o && not b) r a;
  asleep = ap₂ (λ o b. is_some o && b) r a;
}

-- an entry of another changes nothing
pub other_entry : (s : Layout) (past : List Entry) (e : Entry) (w : WorkerId) → IsLegal s (e ∷ past)
    → is_by (Worker w) e ≡ false → IsAsAwake past (e ∷ past) w
unfolding is_asleep
other_entry s past e w legal other =
    both_kept past e w
    (workers_run_on s past e w legal ∙ ap (λ b. if b then run_after e.reply (run past w) else run past w) other)
    (ap (λ b. if b then asleep_after e.reply (is_asleep past w) else is_asleep past w) other)

-- ---- an entry of its own

module _ (s : Layout) (past : List Entry) (w : WorkerId) (c : Call) (fit : fits s (Worker w) c ≡ true)
    (legal : IsLegal s past) where
  abbrev entry : Entry
  entry = entry_for s past (Worker w) c

  legal_next : IsLegal s (entry ∷ past)
  unfolding IsLegal
  legal_next = (fit, refl, legal)

  by_itself : is_by (Worker w) entry ≡ true
  by_itself = same_worker_itself w

  runs_next : run (entry ∷ past) w ≡ run_after entry.reply (run past w)
  runs_next =
      workers_run_on s past entry w legal_next
      ∙ ap (λ b. if b then run_after entry.reply (run past w) else run past w) by_itself

  asleep_next : is_asleep (entry ∷ past) w ≡ asleep_after entry.reply (is_asleep past w)
  unfolding is_asleep
  asleep_next = ap (λ b. if b then asleep_after entry.reply (is_asleep past w) else is_asleep past w) by_itself

  -- a reply that neither starts nor ends a run, nor sends it to sleep, nor wakes it
  pub steady_entry : ((o : Option ℕ) → run_after entry.reply o ≡ o) → ((b : Bool) → asleep_after entry.reply b ≡ b)
      → IsAsAwake past (entry ∷ past) w
  steady_entry runs sleeps = both_kept past entry w (runs_next ∙ runs (run past w))
      (asleep_next ∙ sleeps (is_asleep past w))

  pub awake_by : (r : Reply) → entry.reply ≡ r
      → runs_awake (entry ∷ past) w ≡ (is_some (run_after r (run past w)) && not (asleep_after r (is_asleep past w)))
  awake_by r is =
      ap₂ (λ o b. is_some o && not b) (runs_next ∙ ap (λ q. run_after q (run past w)) is)
      (asleep_next ∙ ap (λ q. asleep_after q (is_asleep past w)) is)

  pub asleep_by : (r : Reply) → entry.reply ≡ r
      → runs_asleep (entry ∷ past) w ≡ (is_some (run_after r (run past w)) && asleep_after r (is_asleep past w))
  asleep_by r is =
      ap₂ (λ o b. is_some o && b) (runs_next ∙ ap (λ q. run_after q (run past w)) is)
      (asleep_next ∙ ap (λ q. asleep_after q (is_asleep past w)) is)

-- ---- replies

has : (a b : Bool) → (a && not b) ≡ true → (a ≡ true) × (b ≡ false)
has true false is = (refl, refl)
has true true is = absurd (cc is)
has false b is = absurd (cc is)

has_asleep : (a b : Bool) → (a && b) ≡ true → (a ≡ true) × (b ≡ true)
has_asleep true true is = (refl, refl)
has_asleep true false is = absurd (cc is)
has_asleep false b is = absurd (cc is)

pub slept_reply : (s : Layout) (past : List Entry) (w : WorkerId) → runs_awake past w ≡ true
    → answer s past (Worker w) call.Sleep ≡ reply.Slept
unfolding answer
slept_reply s past w awake = ap (λ b. if b then reply.Slept else reply.Misuse) awake

pub woke_reply : (s : Layout) (past : List Entry) (w : WorkerId) → runs_asleep past w ≡ true
    → answer s past (Worker w) call.Wake ≡ reply.Woke
unfolding answer
woke_reply s past w asleep = ap (λ b. if b then reply.Woke else reply.Misuse) asleep

pub finished_reply : (s : Layout) (past : List Entry) (w : WorkerId) → runs_awake past w ≡ true
    → is_promised (answer s past (Worker w) call.Finish) ≡ true
unfolding answer finish_answer
finished_reply s past w awake =
    ap (λ b. is_promised (if b then finished_answer (run past w) else reply.Misuse)) awake
    ∙ of (run past w) (has (has_run past w) (is_asleep past w) awake).0
  where
    of : (o : Option ℕ) → is_some o ≡ true → is_promised (finished_answer o) ≡ true
    of None some = absurd (cc some)
    of (Some n) some = refl

-- a run that was awake sleeps
pub asleep_then : (s : Layout) (past : List Entry) (w : WorkerId) → fits s (Worker w) call.Sleep ≡ true
    → IsLegal s past → runs_awake past w ≡ true
    → runs_asleep (entry_for s past (Worker w) call.Sleep ∷ past) w ≡ true
asleep_then s past w fit legal awake =
    asleep_by s past w call.Sleep fit legal reply.Slept (slept_reply s past w awake)
    ∙ ap (λ b. b && true) (has (has_run past w) (is_asleep past w) awake).0

-- and wakes
pub awake_then : (s : Layout) (past : List Entry) (w : WorkerId) → fits s (Worker w) call.Wake ≡ true
    → IsLegal s past → runs_asleep past w ≡ true
    → runs_awake (entry_for s past (Worker w) call.Wake ∷ past) w ≡ true
awake_then s past w fit legal asleep =
    awake_by s past w call.Wake fit legal reply.Woke (woke_reply s past w asleep)
    ∙ ap (λ b. b && true) (has_asleep (has_run past w) (is_asleep past w) asleep).0

-- what a worker has started is awake
pub started_awake : (s : Layout) (past : List Entry) (w : WorkerId) (n : ℕ) → fits s (Worker w) call.Take ≡ true
    → IsLegal s past → number_started (answer s past (Worker w) call.Take) ≡ Some n
    → runs_awake (entry_for s past (Worker w) call.Take ∷ past) w ≡ true
started_awake s past w n fit legal starts =
    awake_by s past w call.Take fit legal _ refl ∙ of (answer s past (Worker w) call.Take) starts
  where
    of : (r : Reply) → number_started r ≡ Some n
        → (is_some (run_after r (run past w)) && not (asleep_after r (is_asleep past w))) ≡ true
    of (reply.Started m) is = refl
    of (reply.StartedEnlist m x) is = refl
    of r is = absurd (cc is)

-- ---- the calls that work functions make

-- it neither starts nor ends a run, nor sends it to sleep, nor wakes it
is_steady : Reply → Bool
is_steady (reply.Started n) = false
is_steady (reply.StartedEnlist n x) = false
is_steady (reply.Finished n) = false
is_steady reply.Slept = false
is_steady reply.Woke = false
is_steady r = true

steady_runs : (r : Reply) → is_steady r ≡ true → (o : Option ℕ) → run_after r o ≡ o
unfolding is_steady
steady_runs (reply.Started n) is o = absurd (cc is)
steady_runs (reply.StartedEnlist n x) is o = absurd (cc is)
steady_runs (reply.Finished n) is o = absurd (cc is)
steady_runs r is o = refl

steady_sleeps : (r : Reply) → is_steady r ≡ true → (b : Bool) → asleep_after r b ≡ b
unfolding is_steady
steady_sleeps (reply.Started n) is b = absurd (cc is)
steady_sleeps (reply.StartedEnlist n x) is b = absurd (cc is)
steady_sleeps reply.Slept is b = absurd (cc is)
steady_sleeps reply.Woke is b = absurd (cc is)
steady_sleeps r is b = refl

-- the replies to queue, delay and modify, whatever decides among them
queued_replies : (a b c d e f g : Bool) (n m : ℕ)
    → is_steady (if a then reply.Misuse else if b then reply.Gone else if c then reply.No else if d then reply.No
    else if e then reply.Foreign else if f then reply.Draining else if g then reply.Yes n else reply.Booked m) ≡ true
unfolding is_steady
queued_replies true b c d e f g n m = refl
queued_replies false true c d e f g n m = refl
queued_replies false false true d e f g n m = refl
queued_replies false false false true e f g n m = refl
queued_replies false false false false true f g n m = refl
queued_replies false false false false false true g n m = refl
queued_replies false false false false false false true n m = refl
queued_replies false false false false false false false n m = refl

queue_steady : (past : List Entry) (who : Who) (i q ticks : ℕ) → is_steady (queue_answer past who i q ticks) ≡ true
unfolding queue_answer
queue_steady past who i q ticks =
    queued_replies (not (may_call past who)) (is_gone past q) (is_cancelling past i) (is_pending past i)
    (runs_elsewhere past i q) (is_shut past who q ticks) (ticks == 0) (length past) (now past + ticks)

modified_replies : (a b c d e f g : Bool) (n m : ℕ)
    → is_steady (if a then reply.Misuse else if b then reply.Gone else if c then reply.No else if d then reply.Foreign
    else if e then reply.Draining else if f then (if g then reply.Again n else reply.Rebooked m)
    else if g then reply.Yes n else reply.Booked m) ≡ true
unfolding is_steady
modified_replies true b c d e f g n m = refl
modified_replies false true c d e f g n m = refl
modified_replies false false true d e f g n m = refl
modified_replies false false false true e f g n m = refl
modified_replies false false false false true f g n m = refl
modified_replies false false false false false true true n m = refl
modified_replies false false false false false true false n m = refl
modified_replies false false false false false false true n m = refl
modified_replies false false false false false false false n m = refl

modify_steady : (past : List Entry) (who : Who) (i q ticks : ℕ) → is_steady (modify_answer past who i q ticks) ≡ true
unfolding modify_answer
modify_steady past who i q ticks =
    modified_replies (not (may_call past who)) (is_gone past q) (is_cancelling past i) (runs_elsewhere past i q)
    (is_shut past who q ticks) (is_pending past i) (ticks == 0) (length past) (now past + ticks)

taken_steady : (o : Option Queueing) (b : Bool) → is_steady (taken_back_answer o b) ≡ true
unfolding is_steady
taken_steady (Some x) b = refl
taken_steady None true = refl
taken_steady None false = refl

cancelled_replies : (a : Bool) (o : Option Queueing) (b : Bool)
    → is_steady (if a then reply.Misuse else taken_back_answer o b) ≡ true
unfolding is_steady
cancelled_replies true o b = refl
cancelled_replies false o b = taken_steady o b

cancel_steady : (past : List Entry) (who : Who) (i : ℕ) → is_steady (cancel_answer past who i) ≡ true
unfolding cancel_answer
cancel_steady past who i = cancelled_replies (not (may_call past who)) (unstarted_queueing past i) (is_booked past i)

-- a call of a work function that its worker makes itself
abbrev pub is_own_call : Call → Bool
is_own_call (call.Queue i q c) = true
is_own_call (call.Delay i q c t) = true
is_own_call (call.Modify i q c t) = true
is_own_call (call.Cancel i) = true
is_own_call c = false

own_steady : (s : Layout) (past : List Entry) (who : Who) (c : Call) → is_own_call c ≡ true
    → is_steady (answer s past who c) ≡ true
unfolding answer
own_steady s past who (call.Queue i q c) own = queue_steady past who i.0 q.0 0
own_steady s past who (call.Delay i q c t) own = queue_steady past who i.0 q.0 t
own_steady s past who (call.Modify i q c t) own = modify_steady past who i.0 q.0 t
own_steady s past who (call.Cancel i) own = cancel_steady past who i.0
own_steady s past who c own = absurd (cc own)

-- such a call neither starts nor ends a run, nor sends it to sleep, nor wakes it
pub own_call_then : (s : Layout) (past : List Entry) (w : WorkerId) (c : Call) → fits s (Worker w) c ≡ true
    → IsLegal s past → is_own_call c ≡ true → IsAsAwake past (entry_for s past (Worker w) c ∷ past) w
own_call_then s past w c fit legal own =
    let steady = own_steady s past (Worker w) c own in
    steady_entry s past w c fit legal (steady_runs _ steady) (steady_sleeps _ steady)
