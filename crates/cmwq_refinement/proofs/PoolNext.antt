-- The next queueing of a pool, by the runs of its own workers alone.
use Rattle.cmwq_refinement.specs.Common.{◌≡◌, ◌==◌, ◌<◌, ℕ, true, false, not, List, [], ◌∷◌, map, Option, Some, None}
use Rattle.cmwq_refinement.specs.Common.{refl, sym, ap, ◌∙◌, arith, option_map, is_some, option_map_or, eqb-true}
use Rattle.cmwq_refinement.specs.Common.{and_parts, PoolId, WorkerId, Who, Caller, Worker, Entry, Queueing, Start}
use Rattle.cmwq_refinement.specs.Common.{Layout, indices, may_make, has_numbers, is_by, same_who, item_at, run}
use Rattle.cmwq_refinement.specs.Common.{last_start, item_run, item_runs, worklist, next, is_startable, worker_at}
use Rattle.cmwq_refinement.specs.Common.{IsLegal, found_known, items_are_run, runs_are_items, run_is, last_start_cases}
use Rattle.cmwq_refinement.specs.Common.{before, same_worker-true, queued_where_it_runs, Task, slot_runs}
use Rattle.cmwq_refinement.specs.Common.{slots_run_item, next_task, nat_tests}
use Rattle.cmwq_refinement.proofs.Numbers.{all_in, any_in, find_mapped, in_any, in_map, in_mapped, in_range}
use Rattle.cmwq_refinement.proofs.Numbers.{number_of_queueing, of_in, same_bools}
use Rattle.cmwq_pool.specs.Slots.{is_task_of}
use Rattle.cmwq_theory_steps.proofs.ItemRuns.{now}
use Rattle.cmwq_pool.specs.PoolState.{is_task_startable as is_startable_task, next_number as pool_state_next}
use Rattle.cmwq_refinement.specs.Pools.{task_for, run_task, slot_of, pool_of}
use Rattle.cmwq_refinement.proofs.ItemNumbers.{unstarted_one}
use Rattle.cmwq_refinement.proofs.PoolReads.{RunOf, idle, busy, run_of, IsOnList, worklist_has}

-- ---- a worker that runs is one that there is

pub worker_fits : (s : Layout) (past : List Entry) (e : Entry) (w : WorkerId) → IsLegal s (e ∷ past)
    → is_by (Worker w) e ≡ true → w.index < s.workers
unfolding IsLegal
worker_fits s past e w legal by = of_who e.who (and_parts (may_make s e.who e.call) (has_numbers s e.call) legal.0).0 by
  where
    of_who : (who : Who) → may_make s who e.call ≡ true → same_who who (Worker w) ≡ true → w.index < s.workers
    of_who (Caller c) may same = cc
    of_who (Worker v) may same = grind (arith, nat_tests, same_worker-true v w same)

started_there : (s : Layout) (past : List Entry) (w : WorkerId) (n : ℕ) → IsLegal s past → last_start past w ≡ Some n
    → w.index < s.workers
unfolding last_start IsLegal
started_there s [] w n legal h = cc
started_there s (e ∷ past) w n legal h = elim (last_start_cases e past w n h) [
  | now by starts ↦ worker_fits s past e w legal by
  | before last ↦ started_there s past w n legal.2 last
]

pub runner_there : (s : Layout) (past : List Entry) (w : WorkerId) (n : ℕ) → IsLegal s past → run past w ≡ Some n
    → w.index < s.workers
runner_there s past w n legal is = started_there s past w n legal (run_is past w n is).last

-- ---- whether one of the slots runs an item

-- a slot's run of an item is the item's run
slot_runs_it : (s : Layout) (past : List Entry) (p : PoolId) (i x : ℕ) → IsLegal s past
    → slot_runs i (slot_of s past p x) ≡ true → item_runs past i ≡ true
slot_runs_it s past p i x legal h = elim (run_of s past (worker_at p x) legal) [
  | idle none ↦ cc
  | busy y is found pool ↦
      let its : (y.item.0 == i) ≡ true = cc in
      ap is_some
      (runs_are_items s past (worker_at p x) y.number i legal is
      ((found_known past y.number y found).item ∙ ap Some (eqb-true y.item.0 i its)))
]

-- and the run of an item that is listed is a slot's of that pool
run_is_slot : (s : Layout) (past : List Entry) (p : PoolId) (x : Queueing) (start : Start) → IsLegal s past
    → IsOnList s past p x → item_run past x.item.0 ≡ Some start → slots_run_item (pool_of s past p).slots x.item.0
    ≡ true
run_is_slot s past p x start legal on is =
    let pool : start.worker.pool ≡ p =
    sym (queued_where_it_runs s past x.item.0 start x legal is
    (unstarted_one s past x.item.0 x legal on.stands refl on.not_started)) ∙ on.pool in
    let runs = items_are_run s past x.item.0 start legal is in
    let same : start.worker ≡ worker_at p start.worker.index = ap (λ q. worker_at q start.worker.index) pool in
    let it : slot_runs x.item.0 (slot_of s past p start.worker.index) ≡ true =
    which (worker_at p start.worker.index) (ap (run past) (sym same) ∙ runs.0) runs.1
    (run_of s past (worker_at p start.worker.index) legal) in
    any_in (slot_runs x.item.0) (map (slot_of s past p) (indices s)) (slot_of s past p start.worker.index)
    (in_mapped (slot_of s past p) (indices s) start.worker.index
    (in_range 0 s.workers start.worker.index (omega arith)
    (omega (arith, runner_there s past start.worker start.number legal runs.0)))) it
  where
    which : (w : WorkerId) → run past w ≡ Some start.number → item_at past start.number ≡ Some x.item.0 → RunOf s past w
        → option_map_or (is_task_of x.item.0) (run_task s past w) false ≡ true
    which w is item (idle none) = cc
    which w is item (busy y runs found pool) = grind (arith, nat_tests, (found_known past y.number y found).item)

listed_runs : (s : Layout) (past : List Entry) (p : PoolId) (x : Queueing) → IsLegal s past → IsOnList s past p x
    → slots_run_item (pool_of s past p).slots x.item.0 ≡ item_runs past x.item.0
listed_runs s past p x legal on =
    same_bools (slots_run_item (pool_of s past p).slots x.item.0) (item_runs past x.item.0)
    (λ h. let k = in_any (slot_runs x.item.0) (pool_of s past p).slots h in let i =
    in_map (slot_of s past p) (indices s) k.0 k.1 in
    slot_runs_it s past p x.item.0 i.0 legal (ap (slot_runs x.item.0) i.2 ∙ k.2))
    (λ h. of_run (item_run past x.item.0) refl h)
  where
    of_run : (o : Option Start) → item_run past x.item.0 ≡ o → is_some o ≡ true
        → slots_run_item (pool_of s past p).slots x.item.0 ≡ true
    of_run None is h = cc
    of_run (Some start) is h = run_is_slot s past p x start legal on is

-- ---- the next

pub next_task_is : (s : Layout) (past : List Entry) (p : PoolId) → IsLegal s past
    → next_task (pool_of s past p) ≡ option_map (task_for s) (next s past p)
unfolding next
next_task_is s past p legal =
    find_mapped (task_for s) (is_startable_task (pool_of s past p).slots) (is_startable past) (worklist s past p)
    (all_in (λ x. is_startable_task (pool_of s past p).slots (task_for s x) ≡ is_startable past x) (worklist s past p)
    (λ x i. ap not
    (listed_runs s past p x legal (of_in (IsOnList s past p) (worklist s past p) x (worklist_has s past p) i))))

pub nexts_are_next : (s : Layout) (past : List Entry) (p : PoolId) → IsLegal s past → pool_state_next (pool_of s past p)
    ≡ option_map number_of_queueing (next s past p)
nexts_are_next s past p legal = ap (option_map (λ (t : Task). t.number)) (next_task_is s past p legal)
    ∙ twice (next s past p)
  where
    twice : (o : Option Queueing) → option_map (λ (t : Task). t.number) (option_map (task_for s) o)
        ≡ option_map number_of_queueing o
    twice o = grind arith
