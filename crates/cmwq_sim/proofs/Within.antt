-- The limits of a plan, at the scenario that it is of.
use Rattle.cmwq_sim.specs.Common.{◌≡◌, ◌<◌, ℕ, List, [], ◌∷◌, length, map, get_or, arith, refl, ap₂, ◌&&◌, true}
use Rattle.cmwq_sim.specs.Common.{list_all, le-leb, is_between, is_queue, are_queues, AllByRecursion, length-map}
use Rattle.cmwq_sim.specs.Common.{get_or-map, subst}
use Rattle.cmwq_sim.proofs.Progress.{all_at}
use Rattle.cmwq_model.specs.Prelude.{most_queues}
use Rattle.cmwq_sim.specs.declared.scenario.SimQueue.{SimQueue}
use Rattle.cmwq_sim.specs.Shows.{queue_shape}
use Rattle.cmwq_sim.specs.declared.scenario.SimItem.{SimItem}
use Rattle.cmwq_sim.specs.Plan.{Plan, plan_item}
use Rattle.cmwq_sim.specs.Limits.{IsBetween, IsQueue, IsItem, IsWithinLimits}

pub each_item : (n : ℕ) (xs : List SimItem) (i : ℕ) (d : SimItem) → AllByRecursion (IsItem n) (map plan_item xs)
    → i < length xs → IsItem n (plan_item (get_or xs i d))
each_item n xs i d all less =
    subst (IsItem n) (get_or-map plan_item xs i d)
    (all_at (IsItem n) (map plan_item xs) i (plan_item d) all (rw (length-map xs plan_item) less))

between : (low high n : ℕ) → IsBetween low high n → is_between low high n ≡ true
between low high n h = ap₂ (λ a b. a && b) (le-leb low n h.0) (le-leb n high h.1)

-- a plan's queues make a shape
are_queues_fine : (qs : List SimQueue) → AllByRecursion IsQueue qs → list_all is_queue (map queue_shape qs) ≡ true
are_queues_fine [] all = refl
are_queues_fine (q ∷ qs) all = ap₂ (λ a b. a && b) (between 1 512 q.max_active all.0) (are_queues_fine qs all.1)

pub makes_a_shape : (s : Plan) → IsWithinLimits s → are_queues (map queue_shape s.queues) ≡ true
makes_a_shape s h =
    let few = h.few_queues in
    let same = length-map s.queues queue_shape in
    ap₂ (λ a b. a && b) (between 1 most_queues (length (map queue_shape s.queues)) (omega arith, omega arith))
    (are_queues_fine s.queues h.queues)
