-- A take starts what the lists say, and some worker may take it.
use Rattle.cmwq_sim.specs.Common.{◌≡◌, ◌==◌, ◌<◌, ◌≤◌, ◌+◌, ℕ, zero, suc, Bool, true, false, cond, not, ◌&&◌, ◌||◌}
use Rattle.cmwq_sim.specs.Common.{List, [], ◌∷◌, ◌++◌, length, map, filter, find, count_by, Option, Some, None, nat_lt}
use Rattle.cmwq_sim.specs.Common.{refl, sym, ap, ap₂, ◌∙◌, subst, arith, ⊎_elim, length-append, length-map, option_map}
use Rattle.cmwq_sim.specs.Common.{option_and_then, is_some, if◌then◌else◌, option_map_or, AllByRecursion, list_any}
use Rattle.cmwq_sim.specs.Common.{eqb-true, eq-eqb, or_cases, ne_eqb, lt-ltb, nat_tests, same_Some, WorkerId, Worker}
use Rattle.cmwq_sim.specs.Common.{Reply, Entry, Queueing, Start, QueueShape, indices, is_intensive, number_started, run}
use Rattle.cmwq_sim.specs.Common.{has_run, is_asleep, item_run, next, is_startable, is_enlisted, is_idle, is_holding}
use Rattle.cmwq_sim.specs.Common.{runnable, enlisted_by, answer, take_answer, finish_answer, start_of, started_answer}
use Rattle.cmwq_sim.specs.Common.{get_or-map, queueing_at, has_number, found_known, runs_are_in_pools, runner_there}
use Rattle.cmwq_model.specs.declared.call.Call.TheVariants as call
use Rattle.cmwq_model.specs.declared.reply.Reply.TheVariants as reply
use Rattle.cmwq_model.specs.Queueings.{queue_of as queue_of_number}
use Rattle.cmwq_theory_steps.proofs.ItemSteps.{items_are_run}
use Rattle.cmwq_sim.specs.Plan.{Plan, plan_queue, no_sim_queue}
use Rattle.cmwq_sim.specs.Plan as plan
use Rattle.cmwq_sim.specs.Lines.{Moment, Job, Sleeper, plan_items, is_job_held}
use Rattle.cmwq_sim.specs.Shows.{layout_for, queue_shape, pool, plan_worker, queueing_for, IsRunAt, is_job, is_sleeper}
use Rattle.cmwq_sim.specs.Shows.{runs_in, Shows, next_of, to_start}
use Rattle.cmwq_sim.proofs.Idle.{idle, all, idle_or_all}
use Rattle.cmwq_sim.proofs.Lists.{any_counted, one_there, one_fewer, others_there, none_counted, one_counted, one, none}
use Rattle.cmwq_sim.proofs.Lists.{any_below, both_ways, list_any-append}

-- ---- the three calls of a run

pub sleep_answered : (s : Plan) (past : List Entry) (x i : ℕ) → IsRunAt past x i false
    → answer (layout_for s) past (Worker (plan_worker x)) call.Sleep ≡ reply.Slept
unfolding answer
sleep_answered s past x i r = ap₂ (λ o b. if is_some o && not b then reply.Slept else reply.Misuse) r.runs r.sleeps

pub finish_answered : (s : Plan) (past : List Entry) (x i : ℕ) → IsRunAt past x i false
    → answer (layout_for s) past (Worker (plan_worker x)) call.Finish ≡ reply.Finished i
unfolding answer finish_answer
finish_answered s past x i r = ap₂ (λ o b. if is_some o && not b then at o else reply.Misuse) r.runs r.sleeps
  where
    at : Option ℕ → Reply
    at None = reply.Misuse
    at (Some n) = reply.Finished n

pub wake_answered : (s : Plan) (past : List Entry) (x i : ℕ) → IsRunAt past x i true
    → answer (layout_for s) past (Worker (plan_worker x)) call.Wake ≡ reply.Woke
unfolding answer
wake_answered s past x i r = ap₂ (λ o b. if is_some o && b then reply.Woke else reply.Misuse) r.runs r.sleeps

-- ---- what a worker runs is the queueing of its item

found_mapped : (s : Plan) (n : ℕ) (x : Queueing) (xs : List ℕ) → find (has_number n) (map (queueing_for s) xs) ≡ Some x
    → x ≡ queueing_for s n
found_mapped s n x [] h = cc
found_mapped s n x (i ∷ xs) h = grind (arith, nat_tests, found_mapped s n x xs)

pub run_found : (s : Plan) (past : List Entry) (m : Moment) (slot : ℕ → ℕ) (w : WorkerId) (n : ℕ) → Shows s past m slot
    → run past w ≡ Some n → queueing_at past n ≡ Some (queueing_for s n)
run_found s past m slot w n h is =
    let r = runs_are_in_pools (layout_for s) past w n h.legal is in
    r.found ∙ ap Some (found_mapped s n r.queueing (plan_items s) (sym (ap (find (has_number n)) h.queued) ∙ r.found))

-- ---- the next of the worklist is the first that is ready

pub runs_counted : (m : Moment) (i : ℕ) → runs_in m i ≡ true
    → 1 ≤ count_by (is_job i) m.cpu + count_by (is_sleeper i) m.sleeping
runs_counted m i h = grind (arith, any_counted (is_job i) m.cpu, any_counted (is_sleeper i) m.sleeping)

startable : (s : Plan) (past : List Entry) (m : Moment) (slot : ℕ → ℕ) (i : ℕ) → Shows s past m slot
    → 1 ≤ count_by (λ j. j == i) m.ready → is_startable past (queueing_for s i) ≡ true
startable s past m slot i h some = at (item_run past i) refl
  where
    at : (o : Option Start) → item_run past i ≡ o → not (is_some (item_run past i)) ≡ true
    at None is = ap (λ o. not (is_some o)) is
    at (Some st) is =
        let k = items_are_run (layout_for s) past i st h.legal is in
        let known =
        found_known past st.number (queueing_for s st.number) (run_found s past m slot st.worker st.number h k.0) in
        let same : st.number ≡ i = same_Some st.number i (sym known.item ∙ k.1) in
        let c = runs_counted m i (ap (runs_in m) (sym same) ∙ (h.no_others st.worker st.number k.0).1) in
        let o = h.once i in
        absurd (omega arith)

next_is : (s : Plan) (past : List Entry) (m : Moment) (slot : ℕ → ℕ) → Shows s past m slot
    → next (layout_for s) past pool ≡ option_map (queueing_for s) (next_of m.ready)
unfolding next
next_is s past m slot h = ap (find (is_startable past)) h.ready ∙ at m.ready refl
  where
    at : (xs : List ℕ) → m.ready ≡ xs → find (is_startable past) (map (queueing_for s) xs)
        ≡ option_map (queueing_for s) (next_of xs)
    at [] is = refl
    at (i ∷ xs) is =
        ap (λ b. cond b (Some (queueing_for s i)) (find (is_startable past) (map (queueing_for s) xs)))
        (startable s past m slot i h
        (any_counted (λ j. j == i) m.ready
        (ap (list_any (λ j. j == i)) is ∙ ap (λ b. b || list_any (λ j. j == i) xs) (eq-eqb i i refl))))

-- ---- the pool is held where an item on the CPU's list holds it

queue_mapped : (s : Plan) (q : ℕ) → is_intensive (layout_for s) q ≡ plan.is_plan_intensive s q
queue_mapped s q = ap (λ (x : QueueShape). x.intensive) (get_or-map queue_shape s.queues q no_sim_queue)

-- a worker with a run that is awake holds the pool where the item's queue isn't CPU intensive
holds_by_item : (s : Plan) (past : List Entry) (m : Moment) (slot : ℕ → ℕ) (x n : ℕ) → Shows s past m slot
    → run past (plan_worker x) ≡ Some n → is_asleep past (plan_worker x) ≡ false
    → is_holding (layout_for s) past pool x ≡ not (plan.is_plan_intensive s (plan_queue s n))
holds_by_item s past m slot x n h runs awake =
    ap₂ (λ o b. (is_some o && not b)
    && not (option_map_or (is_intensive (layout_for s)) (option_and_then (queue_of_number past) o) false)) runs
    awake
    ∙ ap (λ o.
    not (option_map_or (is_intensive (layout_for s)) (option_map (λ (y : Queueing). y.place.queue.0) o) false))
    (run_found s past m slot (plan_worker x) n h runs)
    ∙ ap not (queue_mapped s (plan_queue s n))

-- who is on a list is run in the worker that slot gives
pub run_of : {X : Type 0} (item : X → ℕ) (past : List Entry) (slot : ℕ → ℕ) (b : Bool) (i : ℕ) (xs : List X)
    → AllByRecursion (λ x. IsRunAt past (slot (item x)) (item x) b) xs → list_any (λ x. item x == i) xs ≡ true
    → IsRunAt past (slot i) i b
run_of item past slot b i xs each on =
    let k = one_there (λ x. IsRunAt past (slot (item x)) (item x) b) (λ x. item x == i) xs each on in
    subst (λ n. IsRunAt past (slot n) n b) (eqb-true (item k.0) i k.2) k.1

-- where none holds, each item on the list is of a CPU-intensive queue
none_held : (s : Plan) (n : ℕ) (cpu : List Job) → list_any (is_job_held s) cpu ≡ false → list_any (is_job n) cpu ≡ true
    → not (plan.is_plan_intensive s (plan_queue s n)) ≡ false
none_held s n [] h k = cc
none_held s n (j ∷ cpu) h k = grind (arith, nat_tests, none_held s n cpu)

not_holding : (s : Plan) (past : List Entry) (m : Moment) (slot : ℕ → ℕ) (x : ℕ) → Shows s past m slot
    → list_any (is_job_held s) m.cpu ≡ false → is_holding (layout_for s) past pool x ≡ false
not_holding s past m slot x h clear = at (run past (plan_worker x)) refl (is_asleep past (plan_worker x)) refl
  where
    at : (o : Option ℕ) → run past (plan_worker x) ≡ o → (b : Bool) → is_asleep past (plan_worker x) ≡ b
        → is_holding (layout_for s) past pool x ≡ false
    at None runs b sleeps = grind arith
    at (Some n) runs true sleeps = grind arith
    at (Some n) runs false sleeps =
        let k = h.no_others (plan_worker x) n runs in
        holds_by_item s past m slot x n h runs sleeps ∙ ⊎_elim
        (λ job. none_held s n m.cpu clear job)
        (λ sleeper.
        absurd (both_ways (is_asleep past (plan_worker x)) sleeps
        (ap (is_asleep past) k.0
        ∙ (run_of (λ (z : Sleeper). z.item) past slot true n m.sleeping h.sleeping sleeper).sleeps)))
        (or_cases (list_any (is_job n) m.cpu) (list_any (is_sleeper n) m.sleeping) k.1)

runnable_is : (s : Plan) (past : List Entry) (m : Moment) (slot : ℕ → ℕ) → Shows s past m slot
    → nat_lt 0 (runnable (layout_for s) past pool) ≡ list_any (is_job_held s) m.cpu
unfolding runnable
runnable_is s past m slot h = at (list_any (is_job_held s) m.cpu) refl
  where
    at : (b : Bool) → list_any (is_job_held s) m.cpu ≡ b
        → nat_lt 0 (count_by (is_holding (layout_for s) past pool) (indices (layout_for s))) ≡ b
    at true is =
        let k = one_there (λ (j : Job). IsRunAt past (slot j.item) j.item false) (is_job_held s) m.cpu h.cpu is in
        let below = runner_there (layout_for s) past (plan_worker (slot k.0.item)) k.0.item h.legal k.1.runs in
        lt-ltb 0 _
        (one_counted (is_holding (layout_for s) past pool) 0 8 (slot k.0.item) (omega arith) (omega arith)
        (holds_by_item s past m slot (slot k.0.item) k.0.item h k.1.runs k.1.sleeps ∙ k.2))
    at false is =
        ap (nat_lt 0)
        (none_counted (is_holding (layout_for s) past pool) 0 8 (λ x low high. not_holding s past m slot x h is))

-- ---- what a take is answered

pub take_answered : (s : Plan) (past : List Entry) (m : Moment) (slot : ℕ → ℕ) (x : ℕ) → Shows s past m slot
    → number_started (answer (layout_for s) past (Worker (plan_worker x)) call.Take)
    ≡ (if is_idle past pool x then to_start s m else None)
unfolding answer take_answer
take_answered s past m slot x h =
    ap (λ o. number_started (if not (is_enlisted past (plan_worker x)) || has_run past (plan_worker x) then reply.Misuse
    else start_of (layout_for s) past (plan_worker x) o)) (next_is s past m slot h)
    ∙ at m.ready (is_enlisted past (plan_worker x)) (has_run past (plan_worker x))
    (nat_lt 0 (runnable (layout_for s) past pool)) (enlisted_by (layout_for s) past (plan_worker x))
    ∙ ap (λ b. if is_idle past pool x then (if b then None else next_of m.ready) else None)
    (runnable_is s past m slot h)
  where
    start : Bool → Option ℕ → Option Queueing → Reply
    start held o None = reply.Nothing
    start held o (Some y) = if held then reply.Held else started_answer y.number o

    told : (o : Option ℕ) (i : ℕ) → number_started (started_answer i o) ≡ Some i
    told None i = refl
    told (Some y) i = refl

    at : (xs : List ℕ) (enlisted runs held : Bool) (o : Option ℕ)
        → number_started
        (if not enlisted || runs then reply.Misuse else start held o (option_map (queueing_for s) (next_of xs)))
        ≡ (if enlisted && not runs then (if held then None else next_of xs) else None)
    at xs enlisted runs held o = grind arith

-- ---- and while an item is ready, some worker is idle

-- the numbers below n all stand in a list that is as long at least
covered : (n : ℕ) (ys : List ℕ) → ((x : ℕ) → x < n → list_any (λ y. y == x) ys ≡ true) → n ≤ length ys
covered zero ys h = omega arith
covered (suc n) ys h =
    let less = one_fewer (λ y. y == n) ys (h n (omega arith)) in
    omega (
      arith,
      covered n (filter (λ y. not (y == n)) ys)
          (λ x below. others_there (λ y. y) x n ys (ne_eqb x n (λ same. absurd (omega arith))) ∙ h x (omega arith)),
    )

slot_there : {X : Type 0} (item : X → ℕ) (slot : ℕ → ℕ) (n : ℕ) (xs : List X) → list_any (λ x. item x == n) xs ≡ true
    → list_any (λ y. y == slot n) (map (λ x. slot (item x)) xs) ≡ true
slot_there item slot n [] h = cc
slot_there item slot n (x ∷ xs) h = grind (arith, nat_tests, slot_there item slot n xs)

-- where all workers run, eight items do
all_run : (s : Plan) (past : List Entry) (m : Moment) (slot : ℕ → ℕ) → Shows s past m slot
    → ((x : ℕ) → x < 8 → has_run past (plan_worker x) ≡ true) → 8 ≤ length m.cpu + length m.sleeping
all_run s past m slot h each =
    let c : 8 ≤ length (map (λ (j : Job). slot j.item) m.cpu ++ map (λ (x : Sleeper). slot x.item) m.sleeping) =
    covered 8 _ (λ x less. at x (run past (plan_worker x)) refl (each x less)) in
    let d = simp (length-append, length-map) at c in
    omega arith
  where
    at : (x : ℕ) (o : Option ℕ) → run past (plan_worker x) ≡ o → is_some (run past (plan_worker x)) ≡ true
        → list_any (λ y. y == x) (map (λ (j : Job). slot j.item) m.cpu ++ map (λ (x : Sleeper). slot x.item) m.sleeping)
        ≡ true
    at x None is some = cc
    at x (Some n) is some =
        let k = h.no_others (plan_worker x) n is in
        let a = slot_there (λ (j : Job). j.item) slot n m.cpu in
        let b = slot_there (λ (z : Sleeper). z.item) slot n m.sleeping in
        list_any-append (λ y. y == x) (map (λ (j : Job). slot j.item) m.cpu)
        (map (λ (z : Sleeper). slot z.item) m.sleeping)
        ∙ ap (λ y. list_any (λ z. z == y) (map (λ (j : Job). slot j.item) m.cpu)
        || list_any (λ z. z == y) (map (λ (z : Sleeper). slot z.item) m.sleeping))
        (ap (λ (w : WorkerId). w.index) k.0) ∙ grind arith

pub some_idle : (s : Plan) (past : List Entry) (m : Moment) (slot : ℕ → ℕ) (i : ℕ) → Shows s past m slot
    → next_of m.ready ≡ Some i → (x : ℕ) × (x < 8) × (is_idle past pool x ≡ true)
some_idle s past m slot i h first = elim (idle_or_all (layout_for s) past pool h.legal h.kept (omega arith)) [
  | idle x less is ↦ (x, less, is)
  | all enlisted ↦ elim (any_below (is_idle past pool) 8) [
    | one x less is first ↦ (x, less, is)
    | none nobody missed ↦
        let full =
        all_run s past m slot h
        (λ x less. runs (is_enlisted past (plan_worker x)) (has_run past (plan_worker x)) (enlisted x less)
        (nobody x less)) in
        let f = h.few in
        let r = long m.ready first in
        absurd (omega arith)
  ]
]
  where
    runs : (a b : Bool) → a ≡ true → (a && not b) ≡ false → b ≡ true
    runs a b h k = grind arith

    long : (xs : List ℕ) → next_of xs ≡ Some i → 1 ≤ length xs
    long xs h = grind arith
