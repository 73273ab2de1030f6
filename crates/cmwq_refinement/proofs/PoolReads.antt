-- What a pool answers is what the definitions say.
use Rattle.cmwq_refinement.specs.Common.{◌≡◌, ◌<◌, ◌+◌, ℕ, Bool, true, false, not, ◌&&◌, List, [], ◌∷◌, length, map}
use Rattle.cmwq_refinement.specs.Common.{count_by, Option, Some, None, refl, sym, ap, ap₂, ◌∙◌, subst, arith}
use Rattle.cmwq_refinement.specs.Common.{option_map, option_and_then, is_some, option_map_or, AllByRecursion, list_any}
use Rattle.cmwq_refinement.specs.Common.{length-map-range_with_len, get_or-map-range_with_len, PoolId, WorkerId, Entry}
use Rattle.cmwq_refinement.specs.Common.{Queueing, Layout, indices, is_intensive, pool_at, same_pool, is_started, run}
use Rattle.cmwq_refinement.specs.Common.{has_run, queueings, still_open, is_live, queueing_at, run_queue, is_active}
use Rattle.cmwq_refinement.specs.Common.{worklist, is_listed, worker_at, is_enlisted, is_holding, is_idle, is_occupied}
use Rattle.cmwq_refinement.specs.Common.{is_reserve, is_other_idle, runnable, enlisted_by, has_spare, may_retire}
use Rattle.cmwq_refinement.specs.Common.{IsLegal, All_map, count_by-cons, found_number, runs_are_in_pools}
use Rattle.cmwq_refinement.specs.Common.{same_pool-true, worklist_is, Task, Slot, no_slot, slot_at, is_reserve_at}
use Rattle.cmwq_refinement.proofs.Numbers.{In, contained_in, filter_in, find_same, range_below}
use Rattle.cmwq_theory_steps.proofs.Joined.{active_live}
use Rattle.cmwq_pool.specs.Slots.{slot_is_holding as slot_holds, slot_is_idle, slot_is_occupied, slot_is_reserve}
use Rattle.cmwq_pool.specs.Slots.{slot_is_other_idle as is_other_slot, slots_runnable, slots_enlisted_by}
use Rattle.cmwq_pool.specs.Slots.{slot_may_retire}
use Rattle.cmwq_refinement.specs.Pools.{task_for, run_task, slot_of, pool_of, IsSlotOf}

-- ---- what a worker runs

pub data RunOf (s : Layout) (past : List Entry) (w : WorkerId) : Type 0 where
  idle : run past w ≡ None → RunOf s past w
  busy : (x : Queueing) → run past w ≡ Some x.number → queueing_at past x.number ≡ Some x → pool_at s x.place ≡ w.pool
      → RunOf s past w

pub run_of : (s : Layout) (past : List Entry) (w : WorkerId) → IsLegal s past → RunOf s past w
run_of s past w legal = which (run past w) refl
  where
    which : (o : Option ℕ) → run past w ≡ o → RunOf s past w
    which None is = idle is
    which (Some n) is =
        let r = runs_are_in_pools s past w n legal is in
        let number = found_number past n r.queueing r.found in
        busy r.queueing (is ∙ ap Some (sym number)) (ap (queueing_at past) number ∙ r.found) r.pool

pub run_task_none : (s : Layout) (past : List Entry) (w : WorkerId) → run past w ≡ None → run_task s past w ≡ None
run_task_none s past w is = ap (λ o. option_map (task_for s) (option_and_then (queueing_at past) o)) is

number_run : (s : Layout) (past : List Entry) (w : WorkerId) → IsLegal s past
    → option_map (λ (t : Task). t.number) (run_task s past w) ≡ run past w
number_run s past w legal = grind (arith, run_of s past w legal)

pub some_run : (s : Layout) (past : List Entry) (w : WorkerId) → IsLegal s past
    → is_some (run_task s past w) ≡ has_run past w
some_run s past w legal = grind (arith, run_of s past w legal)

-- whether it is of a CPU-intensive queue
intensive_run : (s : Layout) (past : List Entry) (w : WorkerId) → IsLegal s past
    → option_map_or (λ (t : Task). t.intensive) (run_task s past w) false
    ≡ option_map_or (is_intensive s) (run_queue past w) false
intensive_run s past w legal = grind (arith, run_of s past w legal)

-- ---- counts over slots

count_map : (p : Slot → Bool) (q : ℕ → Bool) (f : ℕ → Slot) (xs : List ℕ) → ((x : ℕ) → p (f x) ≡ q x)
    → count_by p (map f xs) ≡ count_by q xs
count_map p q f [] h = refl
count_map p q f (x ∷ xs) h =
    grind (arith, count_by-cons p (f x) (map f xs), count_by-cons q x xs, h x, count_map p q f xs h)

pub idle_slot : (s : Layout) (past : List Entry) (p : PoolId) (x : ℕ) → IsLegal s past
    → slot_is_idle (slot_of s past p x) ≡ is_idle past p x
idle_slot s past p x legal = ap (λ a. is_enlisted past (worker_at p x) && not a) (some_run s past (worker_at p x) legal)

pub runnables_are_runnable : (s : Layout) (past : List Entry) (p : PoolId) → IsLegal s past
    → slots_runnable (pool_of s past p).slots ≡ runnable s past p
unfolding runnable
runnables_are_runnable s past p legal =
    count_map slot_holds (is_holding s past p) (slot_of s past p) (indices s)
    (λ x. rw (some_run s past (worker_at p x) legal, intensive_run s past (worker_at p x) legal) refl)

-- ---- slots by their index

pub slot_is : (s : Layout) (past : List Entry) (p : PoolId) (x : ℕ) → x < s.workers → slot_at (pool_of s past p).slots x
    ≡ slot_of s past p x
slot_is s past p x less = get_or-map-range_with_len (slot_of s past p) 0 s.workers x x no_slot less (omega arith)

indices_below : (s : Layout) → AllByRecursion (λ x. x < s.workers) (indices s)
indices_below s =
    All_map (λ x. x < 0 + s.workers) (λ x. x < s.workers) (indices s) (λ x less. omega arith) (range_below 0 s.workers)

pub slots_for_workers : (s : Layout) (past : List Entry) (p : PoolId) → length (pool_of s past p).slots ≡ s.workers
slots_for_workers s past p = length-map-range_with_len (slot_of s past p) 0 s.workers

any_agree : (p q : ℕ → Bool) (xs : List ℕ) → AllByRecursion (λ x. p x ≡ q x) xs → list_any p xs ≡ list_any q xs
any_agree p q [] h = refl
any_agree p q (x ∷ xs) h = grind (arith, any_agree p q xs)

pub starts_enlist_alike : (s : Layout) (past : List Entry) (w : WorkerId) → IsLegal s past
    → slots_enlisted_by (pool_of s past w.pool).slots w.index ≡ enlisted_by s past w
unfolding enlisted_by
starts_enlist_alike s past w legal =
    let slots : List Slot = (pool_of s past w.pool).slots in
    let idle =
    any_agree (is_other_slot slots w.index) (is_other_idle past w) (indices s)
    (All_map (λ x. x < s.workers) _ (indices s)
    (λ x less. rw (slot_is s past w.pool x less, some_run s past (worker_at w.pool x) legal) refl)
    (indices_below s)) in
    let reserve =
    find_same (is_reserve_at slots) (is_reserve past w.pool) (indices s)
    (All_map (λ x. x < s.workers) _ (indices s) (λ x less. ap slot_is_reserve (slot_is s past w.pool x less))
    (indices_below s)) in
    rw (slots_for_workers s past w.pool, idle, reserve) refl

pub idle_retire_alike : (s : Layout) (past : List Entry) (p : PoolId) (x : ℕ) → IsLegal s past → x < s.workers
    → slot_may_retire (pool_of s past p).slots x ≡ (is_idle past p x && may_retire s past p)
unfolding may_retire
idle_retire_alike s past p x legal less =
    ap₂ (λ a b. a && b) (ap slot_is_idle (slot_is s past p x less) ∙ idle_slot s past p x legal)
    (ap₂ has_spare
    (count_map slot_is_idle (is_idle past p) (slot_of s past p) (indices s) (λ y. idle_slot s past p y legal))
    (count_map slot_is_occupied (is_occupied past p) (slot_of s past p) (indices s)
    (λ y. rw (some_run s past (worker_at p y) legal) refl)))

pub slots_are_workers : (s : Layout) (past : List Entry) (p : PoolId) (x : ℕ) → IsLegal s past → x < s.workers
    → IsSlotOf past (worker_at p x) (slot_at (pool_of s past p).slots x)
slots_are_workers s past p x legal less =
    subst (IsSlotOf past (worker_at p x)) (sym (slot_is s past p x less))
    (record { enlisted = refl; run = number_run s past (worker_at p x) legal; asleep = refl })

-- ---- the next to start

-- what stands on a worklist is open, hasn't started, and is of the pool
pub record IsOnList (s : Layout) (past : List Entry) (p : PoolId) (x : Queueing) : Type 0 where
  pub made : In x (queueings past)
  pub stands : In x (still_open past)
  pub not_started : is_started past x.number ≡ false
  pub pool : pool_at s x.place ≡ p

pub worklist_has : (s : Layout) (past : List Entry) (p : PoolId)
    → AllByRecursion (IsOnList s past p) (worklist s past p)
worklist_has s past p =
    All_map _ (IsOnList s past p) (worklist s past p) (λ x h. on_list x (contained_in (queueings past) x h.0) h.1)
    (worklist_is s past p).no_others
  where
    on_list : (x : Queueing) → In x (queueings past) → is_listed s past p x ≡ true → IsOnList s past p x
    on_list x made listed =
        let k : (is_active s past x ≡ true) × (is_started past x.number ≡ false)
        × (same_pool (pool_at s x.place) p ≡ true) = grind arith in
        record {
          made = made;
          stands = filter_in (is_live past) (queueings past) x made (active_live s past x k.0);
          not_started = k.1;
          pool = same_pool-true (pool_at s x.place) p k.2;
        }
