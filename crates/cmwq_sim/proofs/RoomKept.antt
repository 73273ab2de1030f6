-- Each call of a replay keeps room for those to come.
use Rattle.cmwq_sim.specs.Common.{◌≡◌, ◌<◌, ◌≤◌, ◌+◌, ◌*◌, ℕ, true, false, List, [], ◌∷◌, ◌++◌, length, drop, find}
use Rattle.cmwq_sim.specs.Common.{Some, ap, ◌∙◌, subst, arith, sum_by, AllByRecursion, list_any, le-leb, sum_by-cons}
use Rattle.cmwq_sim.specs.Common.{sum_by_push, Who, Worker, Call, Entry, has_time, room_needed, has_room, entry_for}
use Rattle.cmwq_sim.specs.Common.{is_promised}
use Rattle.std.specs.Cmp.Derive.{both_true}
use Rattle.cmwq_model.specs.declared.call.Call.TheVariants as call
use Rattle.cmwq_theory_steps.proofs.Promised.{promised_need_no_more}
use Rattle.cmwq_sim.specs.Plan.{Plan, plan_queue, ms_of}
use Rattle.cmwq_sim.specs.Limits.{IsWithinLimits}
use Rattle.cmwq_sim.specs.Rooms.{parts_at, parts_of_job, parts_left, IsRoomy}
use Rattle.cmwq_sim.specs.Lines.{Moment, Job, Sleeper, is_due, job_of, queue_item}
use Rattle.cmwq_sim.specs.Shows.{layout_for, plan_worker, IsRunAt, is_sleeper, Shows}
use Rattle.cmwq_sim.specs.Takers.{IsTaker}
use Rattle.cmwq_sim.proofs.TakeReads.{sleep_answered, finish_answered, wake_answered, run_of}
use Rattle.cmwq_sim.proofs.TakeShown.{started_with, starts_one, take_shown}
use Rattle.cmwq_sim.proofs.WakeShown.{wake_shown}
use Rattle.cmwq_sim.proofs.TakersAre.{taker_starts}
use Rattle.cmwq_sim.proofs.Phases.{serve_sleeps, serve_ends, wake_ends, joined, may_start}
use Rattle.cmwq_sim.proofs.Queued.{ShowsQueued, queue_call, caller, queue_shown, answered}
use Rattle.cmwq_sim.proofs.Roomy.{needs_two, needs_three, sleep_takes_one, end_takes_none, wake_takes_none, start_parts}
use Rattle.cmwq_sim.proofs.Roomy.{queued_parts}
use Rattle.cmwq_sim.proofs.Steps.{then_calls, served_as, woken_as}

-- so there is room for what would be appended
pub has_room_then : (s : Plan) (past : List Entry) (who : Who) (c : Call) (m : Moment) → has_time past c ≡ true
    → IsRoomy s (entry_for (layout_for s) past who c ∷ past) m → has_room (layout_for s) 1000 past who c ≡ true
has_room_then s past who c m time h =
    both_true time (le-leb (room_needed (layout_for s) (entry_for (layout_for s) past who c ∷ past)) 1000 (omega arith))

pub sleep_roomy : (s : Plan) (t : ℕ) (past : List Entry) (m : Moment) (slot : ℕ → ℕ) (j : Job) (js : List Job)
    (pause : ℕ) (left : List ℕ) → Shows s past m slot → IsRoomy s past m → m.cpu ≡ j ∷ js → j.left ≡ pause ∷ left
    → IsRoomy s (then_calls s past (slot j.item) call.Sleep) (served_as s t m js j.item (pause ∷ left))
sleep_roomy s t past m slot j js pause left h roomy is parts =
    let run = subst (AllByRecursion (λ k. IsRunAt past (slot k.item) k.item false)) is h.cpu in
    omega (
      arith,
      needs_two (layout_for s) past _ (serve_sleeps s t past m slot j js pause left h is).legal
          (sleep_answered s past (slot j.item) j.item run.0),
      sleep_takes_one s t m j js pause left is parts,
    )

pub end_roomy : (s : Plan) (t : ℕ) (past : List Entry) (m : Moment) (slot : ℕ → ℕ) (j : Job) (js : List Job)
    → Shows s past m slot → IsRoomy s past m → m.cpu ≡ j ∷ js
    → IsRoomy s (then_calls s past (slot j.item) call.Finish) (served_as s t m js j.item [])
end_roomy s t past m slot j js h roomy is =
    let run = subst (AllByRecursion (λ k. IsRunAt past (slot k.item) k.item false)) is h.cpu in
    let a = promised_need_no_more (layout_for s) past _ (serve_ends s t past m slot j js h is).legal
    (ap is_promised (finish_answered s past (slot j.item) j.item run.0)) in
    omega (arith, end_takes_none s t m j js is)

module _ (s : Plan) (t i : ℕ) (past : List Entry) (m : Moment) (slot : ℕ → ℕ) (x : Sleeper) (h : Shows s past m slot)
    (roomy : IsRoomy s past m) (due : find (is_due t i) m.sleeping ≡ Some x) (its : x.item ≡ i)
    (asleep : list_any (is_sleeper i) m.sleeping ≡ true) where
  woke : is_promised (entry_for (layout_for s) past (Worker (plan_worker (slot i))) call.Wake).reply ≡ true
  woke = ap is_promised
      (wake_answered s past (slot i) i (run_of (λ (y : Sleeper). y.item) past slot true i m.sleeping h.sleeping asleep))

  pub wake_roomy : IsRoomy s (then_calls s past (slot i) call.Wake) m
  wake_roomy =
      omega (arith, promised_need_no_more (layout_for s) past _ (wake_shown s past m slot i 0 [] h asleep).legal woke)

  pub wake_burns_roomy : (b : ℕ) (left : List ℕ) → x.left ≡ b ∷ left
      → IsRoomy s (then_calls s past (slot i) call.Wake) (woken_as s t m i (b ∷ left))
  wake_burns_roomy b left parts = omega (arith, wake_roomy, wake_takes_none s t i m x (b ∷ left) due its parts)

  -- awake, and with nothing left
  pub wake_ends_roomy : x.left ≡ []
      → IsRoomy s (then_calls s (then_calls s past (slot i) call.Wake) (slot i) call.Finish)
      (woken_as s t m i [])
  wake_ends_roomy parts =
      let awake = wake_shown s past m slot i 0 [] h asleep in
      let run =
      run_of (λ (j : Job). j.item) (then_calls s past (slot i) call.Wake) slot false i
      (m.cpu ++ record { item = i; burn = 0; left = [] } ∷ []) awake.cpu (joined s t i past m slot h asleep) in
      let b = promised_need_no_more (layout_for s) (then_calls s past (slot i) call.Wake) _
      (wake_ends s t i past m slot h asleep).legal
      (ap is_promised (finish_answered s (then_calls s past (slot i) call.Wake) (slot i) i run)) in
      omega (arith, wake_roomy, wake_takes_none s t i m x [] due its parts)

-- ---- starts

start_takes_none : (s : Plan) (m : Moment) (n : ℕ) (rest : List ℕ) → m.ready ≡ n ∷ rest
    → parts_left s (started_with s m n rest) ≤ parts_left s m
start_takes_none s m n rest is =
    omega (
      arith,
      ap (sum_by (parts_at s)) is ∙ sum_by-cons (parts_at s) n rest,
      sum_by_push parts_of_job m.cpu (job_of s n),
      start_parts n (ms_of s n),
    )

pub start_roomy : (s : Plan) (past : List Entry) (m : Moment) (slot : ℕ → ℕ) (x n : ℕ) → Shows s past m slot
    → IsRoomy s past m → IsTaker (layout_for s) past x n
    → IsRoomy s (then_calls s past x call.Take) (started_with s m n (drop 1 m.ready))
start_roomy s past m slot x n h roomy t =
    let k = taker_starts s past m slot x n h t in
    let may = may_start s m n k.1 in
    let a = promised_need_no_more (layout_for s) past _
    (take_shown s past m slot x n (drop 1 m.ready) h t.below k.0 may.first may.clear).legal
    (starts_one _ n t.starts).promised in
    omega (arith, start_takes_none s m n (drop 1 m.ready) may.first)

-- ---- queueing: three entries for it, and two for each of eight parts

pub queue_roomy : (s : Plan) (k : ℕ) (past : List Entry) (m : Moment) (h : ShowsQueued s k past m) → IsWithinLimits s
    → k < length s.items → k < 8 → plan_queue s k < length s.queues
    → room_needed (layout_for s) past + 2 * parts_left s m ≤ 19 * k
    → room_needed (layout_for s) (entry_for (layout_for s) past caller (queue_call s k) ∷ past) + 2 * parts_left s
    (queue_item s m k) ≤ 19 * (k + 1)
queue_roomy s k past m h fine less few there roomy =
    omega (
      arith,
      needs_three (layout_for s) past _ k (queue_shown s k past m h few there).legal
          (answered s k past m h),
      queued_parts s m k fine less,
    )
