-- Queueings by number, and the queues of runs, after one more entry.
use Rattle.cmwq_theory_steps.specs.Common.{arith, ◌≡◌, ◌==◌, ℕ, Bool, true, false, cond, List, ◌∷◌, length, find}
use Rattle.cmwq_theory_steps.specs.Common.{Option, Some, None, option_to_list, refl, sym, ap, ◌∙◌, option_map}
use Rattle.cmwq_theory_steps.specs.Common.{option_and_then, if◌then◌else◌, option_or, eq-eqb, WorkerId, Worker, Reply}
use Rattle.cmwq_theory_steps.specs.Common.{Entry, Queueing, Layout, is_at, is_by, number_started, run, queueings}
use Rattle.cmwq_theory_steps.specs.Common.{opening, has_number, queueing_at, queue_of, run_queue, IsLegal, find-append}
use Rattle.cmwq_theory_steps.proofs.Rising.{opening_number}
use Rattle.cmwq_model.specs.declared.reply.Reply.TheVariants as reply
use Rattle.cmwq_theory_steps.specs.RunSteps.{run_after}
use Rattle.cmwq_theory_steps.specs.Queued.{opening_at, run_queue_after}
use Rattle.cmwq_theory_steps.proofs.StartsListed.{queueing_at-older, starts_listed}
use Rattle.cmwq_theory_steps.proofs.RunsActive.{run_is_active}
use Rattle.cmwq_theory_steps.proofs.RunSteps.{workers_run_on}

opened_at : (past : List Entry) (e : Entry) (n : ℕ) (o : Option Queueing) → opening past e ≡ o
    → find (has_number n) (option_to_list o) ≡ (if length past == n then o else None)
opened_at past e n None h = grind arith
opened_at past e n (Some x) h = ap (λ m. cond (m == n) (Some x) None) (opening_number past e x h)

pub queueings_go_on : (past : List Entry) (e : Entry) (n : ℕ)
    → queueing_at (e ∷ past) n ≡ option_or (queueing_at past n) (opening_at past e n)
unfolding queueings
queueings_go_on past e n = find-append (has_number n) (queueings past) (option_to_list (opening past e))
    ∙ ap (option_or (queueing_at past n)) (opened_at past e n (opening past e) refl)

-- ---- the queue of a run

queue_same : (past : List Entry) (e : Entry) (n : ℕ) (x : Queueing) → queueing_at past n ≡ Some x
    → queue_of (e ∷ past) n ≡ queue_of past n
queue_same past e n x found =
    ap (option_map (λ (y : Queueing). y.place.queue.0)) (queueing_at-older e past n x found ∙ sym found)

run_queue_same : (s : Layout) (past : List Entry) (e : Entry) (w : WorkerId) (o : Option ℕ) → IsLegal s past
    → run past w ≡ o → option_and_then (queue_of (e ∷ past)) o ≡ option_and_then (queue_of past) o
run_queue_same s past e w None legal h = refl
run_queue_same s past e w (Some n) legal h = let r = run_is_active s past w n legal h in
    queue_same past e n r.queueing r.found

started_queue : (s : Layout) (past : List Entry) (e : Entry) (n : ℕ) → IsLegal s (e ∷ past)
    → number_started e.reply ≡ Some n → queue_of (e ∷ past) n ≡ queue_of past n
started_queue s past e n legal h = let st = starts_listed s past e n legal (ap (λ o. is_at o n) h ∙ eq-eqb n n refl) in
    queue_same past e n st.queueing st.found

own_queue : (s : Layout) (past : List Entry) (e : Entry) (w : WorkerId) (r : Reply) → IsLegal s (e ∷ past) → e.reply ≡ r
    → option_and_then (queue_of (e ∷ past)) (run past w) ≡ run_queue past w
    → option_and_then (queue_of (e ∷ past)) (run_after r (run past w)) ≡ run_queue_after past r (run_queue past w)
own_queue s past e w (reply.Started n) legal is same = started_queue s past e n legal (ap number_started is)
own_queue s past e w (reply.StartedEnlist n x) legal is same = started_queue s past e n legal (ap number_started is)
own_queue s past e w (reply.Finished n) legal is same = refl
own_queue s past e w r legal is same = same

pub run_queues_go_on : (s : Layout) (past : List Entry) (e : Entry) → IsLegal s (e ∷ past) → (w : WorkerId)
    → run_queue (e ∷ past) w
    ≡ (if is_by (Worker w) e then run_queue_after past e.reply (run_queue past w) else run_queue past w)
unfolding IsLegal
run_queues_go_on s past e legal w = ap (option_and_then (queue_of (e ∷ past))) (workers_run_on s past e w legal)
    ∙ either (is_by (Worker w) e)
  where
    same : option_and_then (queue_of (e ∷ past)) (run past w) ≡ run_queue past w
    same = run_queue_same s past e w (run past w) legal.2 refl

    either : (b : Bool)
        → option_and_then (queue_of (e ∷ past)) (if b then run_after e.reply (run past w) else run past w)
        ≡ (if b then run_queue_after past e.reply (run_queue past w) else run_queue past w)
    either true = own_queue s past e w e.reply legal refl same
    either false = same
