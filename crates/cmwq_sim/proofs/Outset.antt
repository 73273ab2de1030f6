-- At the outset as much is left to do as the items have in all.
use Rattle.cmwq_sim.specs.Common.{◌≡◌, ◌<◌, ◌≤◌, ◌+◌, ℕ, zero, suc, Bool, true, false, ◌||◌, List, [], ◌∷◌, ◌++◌}
use Rattle.cmwq_sim.specs.Common.{length, drop, count_by, nat_lt, refl, sym, ap, ◌∙◌, subst, arith, inl, add-one}
use Rattle.cmwq_sim.specs.Common.{drop-cons, if◌then◌else◌, slice_index_or, sum_by, fold, AllByRecursion, list_any}
use Rattle.cmwq_sim.specs.Common.{range_with_len, eqb-true, nat_tests, sum_by-cons, sum_by_push}
use Rattle.cmwq_sim.specs.Plan.{Plan, plan_queue, plan_width, is_of_plan_queue, time_of, whole_time, no_item}
use Rattle.cmwq_sim.specs.Plan.{no_sim_queue}
use Rattle.cmwq_sim.specs.Limits.{IsQueue, IsWithinLimits}
use Rattle.cmwq_sim.specs.Lines.{Moment, Job, Sleeper, queue_item, queued_at_first, empty}
use Rattle.cmwq_sim.specs.Ends.{AllItemsEnd}
use Rattle.cmwq_sim.proofs.Lists.{counted_any, last_any, drop_all, list_any-append, sum-map, All_push}
use Rattle.cmwq_sim.proofs.Progress.{all_at, item_limits, time_at, job_rest, sleeper_rest, weight, rest, of_job}
use Rattle.cmwq_sim.proofs.Progress.{of_sleeper, IsSleeper, FirstMayBeDone, Begins, all_pass}

-- while the items are queued
pub record Queues (s : Plan) (m : Moment) : Type 0 where
  pub ready : AllByRecursion (λ i. i < length s.items) m.ready
  pub behind : AllByRecursion (λ i. i < length s.items) m.behind
  pub held : (q : ℕ) → list_any (is_of_plan_queue s q) m.behind ≡ true → list_any (is_of_plan_queue s q) m.ready ≡ true

pub queues : (s : Plan) (m : Moment) (i : ℕ) → IsWithinLimits s → i < length s.items → Queues s m
    → Queues s (queue_item s m i)
queues s m i fine less h =
    at (nat_lt (count_by (is_of_plan_queue s (plan_queue s i)) (m.ready ++ m.behind)) (plan_width s (plan_queue s i)))
    refl
  where
    at : (b : Bool)
        → nat_lt (count_by (is_of_plan_queue s (plan_queue s i)) (m.ready ++ m.behind)) (plan_width s (plan_queue s i))
        ≡ b
        → Queues s (if b then record m { ready = m.ready ++ i ∷ [] } else record m { behind = m.behind ++ i ∷ [] })
    at true room = record {
      ready = All_push (λ k. k < length s.items) m.ready i h.ready less;
      behind = h.behind;
      held = λ q some. list_any-append (is_of_plan_queue s q) m.ready (i ∷ [])
          ∙ ap (λ b. b || list_any (is_of_plan_queue s q) (i ∷ [])) (h.held q some);
    }
    at false full = record {
      ready = h.ready;
      behind = All_push (λ k. k < length s.items) m.behind i h.behind less;
      held = λ q some.
          let many =
          counted_any (is_of_plan_queue s (plan_queue s i)) (m.ready ++ m.behind)
          (grind (
            arith,
            nat_tests,
            full,
            (all_at IsQueue s.queues (plan_queue s i) no_sim_queue fine.queues
                (item_limits s i fine less).queue).0,
          )) in
          let own =
          λ (is : is_of_plan_queue s q i ≡ true). subst (λ k. list_any (is_of_plan_queue s k) (m.ready ++ m.behind)
          ≡ true) (eqb-true (plan_queue s i) q is) many in
          grind (
            arith,
            last_any (is_of_plan_queue s q) m.behind i,
            list_any-append (is_of_plan_queue s q) m.ready m.behind,
            h.held q,
          );
    }

pub all_queue : (s : Plan) (len k : ℕ) (m : Moment) → IsWithinLimits s → k + len ≤ length s.items → Queues s m
    → Queues s (fold (queue_item s) m (range_with_len k len))
all_queue s zero k m fine less h = h
all_queue s (suc len) k m fine less h =
    all_queue s len (k + 1) (queue_item s m k) fine (omega arith) (queues s m k fine (omega arith) h)

-- a queueing runs nobody and tells nothing
pub queue_keeps : (s : Plan) (m : Moment) (is : List ℕ) → ((fold (queue_item s) m is).cpu ≡ m.cpu)
    × ((fold (queue_item s) m is).sleeping ≡ m.sleeping) × ((fold (queue_item s) m is).lines ≡ m.lines)
queue_keeps s m [] = (refl, refl, refl)
queue_keeps s m (i ∷ is) = let k = queue_keeps s (queue_item s m i) is in (grind arith, grind arith, grind arith)

-- ---- what is left to do

pub queue_weighs : (s : Plan) (m : Moment) (i : ℕ) (f : ℕ → ℕ) (g : Job → ℕ) (h : Sleeper → ℕ)
    → weight f g h (queue_item s m i) ≡ weight f g h m + f i
queue_weighs s m i f g h =
    let a = sum_by_push f m.ready i in
    let b = sum_by_push f m.behind i in
    grind arith

pub all_weigh : (s : Plan) (len k : ℕ) (m : Moment) (f : ℕ → ℕ) (g : Job → ℕ) (h : Sleeper → ℕ)
    → weight f g h (fold (queue_item s) m (range_with_len k len)) ≡ weight f g h m + sum_by f (range_with_len k len)
all_weigh s zero k m f g h = omega arith
all_weigh s (suc len) k m f g h =
    omega (
      arith,
      all_weigh s len (k + 1) (queue_item s m k) f g h,
      queue_weighs s m k f g h,
      sum_by-cons f k (range_with_len (k + 1) len),
    )

each_time : (s : Plan) (len k : ℕ) → k + len ≡ length s.items → sum_by (time_at s) (range_with_len k len)
    ≡ sum_by time_of (drop k s.items)
each_time s zero k is = sym (ap (sum_by time_of) (drop_all k s.items (omega arith)))
each_time s (suc len) k is =
    sum_by-cons (time_at s) k (range_with_len (k + 1) len)
    ∙ ap (λ n. time_at s k + n)
    (each_time s len (k + 1) (omega arith) ∙ ap (λ j. sum_by time_of (drop j s.items)) (add-one k))
    ∙ sym (ap (sum_by time_of) (drop-cons s.items k no_item (omega arith))
    ∙ sum_by-cons time_of (slice_index_or s.items k no_item) (drop (suc k) s.items))

pub whole_at_outset : (s : Plan) → rest s 0 (queued_at_first s) ≡ whole_time s
whole_at_outset s = all_weigh s (length s.items) 0 empty (time_at s) job_rest (sleeper_rest 0)
    ∙ ap (λ n. 0 + n) (each_time s (length s.items) 0 (omega arith) ∙ sym (sum-map time_of s.items)) ∙ omega arith

pub begins : (s : Plan) → IsWithinLimits s → Begins s 0 (queued_at_first s)
begins s fine =
    let k = all_queue s (length s.items) 0 empty fine (omega arith)
    (record { ready = tt; behind = tt; held = λ q some. some }) in
    let none = queue_keeps s empty (range_with_len 0 (length s.items)) in
    record {
      sound = record {
        ready = k.ready;
        behind = k.behind;
        sleeping = subst (AllByRecursion (IsSleeper s 0)) (sym none.1) tt;
        held = λ q some. ap (λ b. (b || list_any (of_job s q) (queued_at_first s).cpu)
            || list_any (of_sleeper s q) (queued_at_first s).sleeping) (k.held q some);
      };
      first = subst (FirstMayBeDone s) (sym none.0) tt;
    }

pub all_items_end : AllItemsEnd
all_items_end s fine =
    let w = whole_at_outset s in
    all_pass s (suc (whole_time s)) 0 (queued_at_first s) fine (begins s fine) (inl (omega arith))
