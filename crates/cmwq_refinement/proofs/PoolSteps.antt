-- A pool refines a history, entry by entry.
use Rattle.cmwq_refinement.specs.Common.{◌≡◌, ◌==◌, ℕ, true, false, not, ◌&&◌, List, [], ◌∷◌, ◌++◌, map, filter, Option}
use Rattle.cmwq_refinement.specs.Common.{Some, None, refl, sym, ap, ap₂, ◌∙◌, subst, append-nil, eq-eqb, map-append}
use Rattle.cmwq_refinement.specs.Common.{append_assoc, PoolId, WorkerId, Who, Caller, Worker, Reply, Entry, Queueing}
use Rattle.cmwq_refinement.specs.Common.{Layout, indices, pool_at, is_at, same_pool, number_started, finishes}
use Rattle.cmwq_refinement.specs.Common.{last_start, is_asleep, queueings, still_open, is_live, queueing_at}
use Rattle.cmwq_refinement.specs.Common.{became_active, worklist, is_enlisted, worker_at, IsLegal, survives, is_ended}
use Rattle.cmwq_refinement.specs.Common.{ending, is_left, is_in, All_map, All_each, none_found, listed_pool, no_end}
use Rattle.cmwq_refinement.specs.Common.{IsFound, queueings_found, starts_listed, worklists_go_on, same_pool-true}
use Rattle.cmwq_refinement.specs.Common.{new_slot, PoolState, new_pool_state, is_other_task, pool_with_task}
use Rattle.cmwq_refinement.specs.Common.{pool_without_task, next_task, nat_tests, arith, and_true}
use Rattle.cmwq_refinement.proofs.Numbers.{In, cond_both, filter_all, filter_mapped, in_filter, number_of_queueing}
use Rattle.cmwq_refinement.proofs.Numbers.{of_in, rises_unique}
use Rattle.cmwq_refinement.specs.Pools.{task_for, slot_of, pool_of, start_next, pool_after_reply, pool_after_worker}
use Rattle.cmwq_refinement.specs.Pools.{pool_after_cancel, pool_after_activation, pool_before_activation, made_active}
use Rattle.cmwq_refinement.specs.Pools.{pool_after}
use Rattle.cmwq_refinement.proofs.QueueingSteps.{QueueingStep, queueing_step, ends_one, ends_none, open_numbers_rise}
use Rattle.cmwq_refinement.proofs.TimerSteps.{same_rows}
use Rattle.cmwq_refinement.proofs.PoolReads.{IsOnList, worklist_has}
use Rattle.cmwq_refinement.proofs.PoolSlots.{starts_task, slots_refine, pool_itself}
use Rattle.cmwq_theory_steps.proofs.PendingSteps.{not_finished}
use Rattle.cmwq_pool.proofs.Starting.{same_pool_state}

-- ---- what joins the list

activation_is : (s : Layout) (xs : List Queueing) (l : PoolState)
    → pool_after_activation s xs l ≡ record l { listed = l.listed ++ map (task_for s) xs }
activation_is s [] l = ap (λ ts. record l { listed = ts }) (sym (append-nil l.listed))
activation_is s (x ∷ xs) l =
    cc (
      activation_is s xs (pool_with_task l (task_for s x)),
      append_assoc l.listed (task_for s x ∷ []) (map (task_for s) xs),
    )

-- ---- what leaves it

all_stay : (s : Layout) (past : List Entry) (e : Entry) (p : PoolId)
    → ((y : Queueing) → IsOnList s past p y → is_left past e y ≡ true)
    → map (task_for s) (filter (is_left past e) (worklist s past p)) ≡ map (task_for s) (worklist s past p)
all_stay s past e p h =
    ap (map (task_for s))
    (filter_all (is_left past e) (worklist s past p)
    (All_map (IsOnList s past p) (λ y. is_left past e y ≡ true) (worklist s past p) h (worklist_has s past p)))

-- a number tells its item
number_tells : (past : List Entry) (x y : Queueing) → queueing_at past x.number ≡ Some x → In y (queueings past)
    → (y.number == x.number) ≡ ((y.number == x.number) && (y.item.0 == x.item.0))
number_tells past x y found made =
    grind (arith, nat_tests, of_in (IsFound past) (queueings past) y (queueings_found past) made)

one_leaves : (s : Layout) (past : List Entry) (e : Entry) (p : PoolId) (x : Queueing)
    → queueing_at past x.number ≡ Some x
    → ((y : Queueing) → IsOnList s past p y → is_left past e y ≡ not (y.number == x.number))
    → map (task_for s) (filter (is_left past e) (worklist s past p))
    ≡ filter (is_other_task x.number x.item.0) (map (task_for s) (worklist s past p))
one_leaves s past e p x found h =
    sym (filter_mapped (task_for s) (is_other_task x.number x.item.0) (is_left past e) (worklist s past p)
    (All_map (IsOnList s past p) (λ y. is_other_task x.number x.item.0 (task_for s y) ≡ is_left past e y)
    (worklist s past p) (λ y on. sym (h y on ∙ ap not (number_tells past x y found on.made))) (worklist_has s past p)))

-- ---- an entry that starts nothing

listed_after : (r : Reply) (x : ℕ) (l : PoolState) → number_started r ≡ None
    → (pool_after_reply r x l).listed ≡ l.listed
listed_after r x l h = grind arith

listed_worker : (p : PoolId) (who : Who) (r : Reply) (l : PoolState) → number_started r ≡ None
    → (pool_after_worker p who r l).listed ≡ l.listed
listed_worker p (Caller c) r l h = refl
listed_worker p (Worker w) r l h = grind (arith, listed_after r w.index l h)

listed_cancelled : (s : Layout) (p : PoolId) (e : Entry) (o : Option Queueing) (l m : PoolState) → l.listed ≡ m.listed
    → (pool_after_cancel s p e o l).listed ≡ (pool_after_cancel s p e o m).listed
listed_cancelled s p e o l m same = grind arith

left_if_survives : (past : List Entry) (e : Entry) (y : Queueing) → number_started e.reply ≡ None
    → is_left past e y ≡ survives past e y
left_if_survives past e y none = rw (none, and_true) refl

in_its_pool : (s : Layout) (past : List Entry) (p : PoolId) (x : Queueing) → pool_at s x.place ≡ p → is_in s p x ≡ true
in_its_pool s past p x is = subst (λ q. same_pool q p ≡ true) (sym is) (pool_itself (worker_at p 0))

cancelled_leaves : (s : Layout) (past : List Entry) (e : Entry) (p : PoolId) → IsLegal s (e ∷ past)
    → number_started e.reply ≡ None → QueueingStep past e
    → map (task_for s) (filter (is_left past e) (worklist s past p))
    ≡ (pool_after_cancel s p e (ending past e) (pool_of s past p)).listed
cancelled_leaves s past e p legal none (ends_none is all) =
    rw is (all_stay s past e p
    (λ y on. left_if_survives past e y none ∙ of_in (λ z. survives past e z ≡ true) (still_open past) y all on.stands))
cancelled_leaves s past e p legal none (ends_one x is here all) =
    rw is (cond_both (is_in s p x && not (finishes x.number e)) (pool_without_task (pool_of s past p) x.number x.item.0)
    (pool_of s past p) (λ l. map (task_for s) (filter (is_left past e) (worklist s past p)) ≡ l.listed)
    (λ leaves.
    one_leaves s past e p x
    (of_in (IsFound past) (queueings past) x (queueings_found past)
    (in_filter (is_live past) (queueings past) x here).0) left)
    (λ stays. all_stay s past e p (λ y on.
    let differs : (y.number == x.number) ≡ false =
    grind (
      arith,
      nat_tests,
      stays,
      rises_unique number_of_queueing (still_open past) y x (open_numbers_rise past)
          on.stands here,
      in_its_pool s past p x,
      not_finished s past e x.number legal,
    ) in
    left y on ∙ ap not differs)))
  where
    left : (y : Queueing) → IsOnList s past p y → is_left past e y ≡ not (y.number == x.number)
    left y on =
        left_if_survives past e y none ∙ of_in (λ z. survives past e z ≡ not (z.number == x.number)) (still_open past) y
        all on.stands

-- ---- an entry that starts a queueing

all_survive : (past : List Entry) (e : Entry) (n : ℕ) (y : Queueing) → number_started e.reply ≡ Some n
    → survives past e y ≡ true
all_survive past e n y h = let none = no_end e.reply n h in rw (none.0, none.1, none.2) refl

start_ends_none : (past : List Entry) (e : Entry) (n : ℕ) → number_started e.reply ≡ Some n → ending past e ≡ None
start_ends_none past e n h =
    none_found (is_ended past e) (still_open past)
    (All_each (λ y. is_ended past e y ≡ false) (still_open past) (λ y. ap not (all_survive past e n y h)))

left_if_not : (past : List Entry) (e : Entry) (n : ℕ) (y : Queueing) → number_started e.reply ≡ Some n
    → is_left past e y ≡ not (n == y.number)
left_if_not past e n y h = ap₂ (λ a o. a && not (is_at o y.number)) (all_survive past e n y h) h

start_reply : (r : Reply) (n : ℕ) (x : ℕ) (l : PoolState) → number_started r ≡ Some n
    → pool_after_reply r x l ≡ start_next x (next_task l) l
start_reply r n x l h = grind arith

-- the one that starts leaves the list of its pool
started_leaves : (s : Layout) (past : List Entry) (e : Entry) (w : WorkerId) (n : ℕ) → IsLegal s (e ∷ past)
    → e.who ≡ Worker w → number_started e.reply ≡ Some n
    → map (task_for s) (filter (is_left past e) (worklist s past w.pool))
    ≡ (pool_after_reply e.reply w.index (pool_of s past w.pool)).listed
started_leaves s past e w n legal who h =
    let st = starts_task s past e w n legal who h in
    rw (start_reply e.reply n w.index (pool_of s past w.pool) h, st.task)
    (one_leaves s past e w.pool st.queueing st.found
    (λ y on. left_if_not past e n y h ∙ grind (arith, nat_tests, st.number)))

start_leaves : (s : Layout) (past : List Entry) (e : Entry) (p : PoolId) (n : ℕ) → IsLegal s (e ∷ past)
    → number_started e.reply ≡ Some n
    → map (task_for s) (filter (is_left past e) (worklist s past p))
    ≡ (pool_after_worker p e.who e.reply (pool_of s past p)).listed
start_leaves s past e p n legal h =
    let st = starts_listed s past e n legal (ap (λ o. is_at o n) h ∙ eq-eqb n n refl) in
    rw st.by_worker
    (cond_both (same_pool st.worker.pool p) (pool_after_reply e.reply st.worker.index (pool_of s past p))
    (pool_of s past p) (λ l. map (task_for s) (filter (is_left past e) (worklist s past p)) ≡ l.listed)
    (λ same. rw (← same_pool-true st.worker.pool p same) (started_leaves s past e st.worker n legal st.by_worker h))
    (λ other. all_stay s past e p (λ y on.
    let its =
    same_pool-true (pool_at s st.queueing.place) st.worker.pool
    (listed_pool s past st.worker.pool st.queueing st.listed) in
    let differs : (n == y.number) ≡ false =
    grind (
      arith,
      nat_tests,
      other,
      of_in (IsFound past) (queueings past) y (queueings_found past) on.made,
      on.pool,
      st.found,
      its,
      pool_itself st.worker,
    ) in
    left_if_not past e n y h ∙ ap not differs)))

-- ---- together

left_listed : (s : Layout) (past : List Entry) (e : Entry) (p : PoolId) → IsLegal s (e ∷ past)
    → map (task_for s) (filter (is_left past e) (worklist s past p))
    ≡ (pool_after_cancel s p e (ending past e) (pool_after_worker p e.who e.reply (pool_of s past p))).listed
left_listed s past e p legal = by (number_started e.reply) refl
  where
    by : (o : Option ℕ) → number_started e.reply ≡ o → map (task_for s) (filter (is_left past e) (worklist s past p))
        ≡ (pool_after_cancel s p e (ending past e) (pool_after_worker p e.who e.reply (pool_of s past p))).listed
    by None none = cancelled_leaves s past e p legal none (queueing_step s past e legal)
        ∙ listed_cancelled s p e (ending past e) (pool_of s past p)
        (pool_after_worker p e.who e.reply (pool_of s past p))
        (sym (listed_worker p e.who e.reply (pool_of s past p) none))
    by (Some n) is =
        start_leaves s past e p n legal is
        ∙ sym (ap (λ o. (pool_after_cancel s p e o (pool_after_worker p e.who e.reply (pool_of s past p))).listed)
        (start_ends_none past e n is))

record SameOthers (l m : PoolState) : Type 0 where
  items : m.items ≡ l.items
  slots : m.slots ≡ l.slots

cancelled_others : (s : Layout) (p : PoolId) (e : Entry) (o : Option Queueing) (l : PoolState)
    → SameOthers l (pool_after_cancel s p e o l)
cancelled_others s p e o l = grind arith

reply_items : (r : Reply) (x : ℕ) (l : PoolState) → (pool_after_reply r x l).items ≡ l.items
reply_items r x l = grind arith

worker_items : (p : PoolId) (who : Who) (r : Reply) (l : PoolState) → (pool_after_worker p who r l).items ≡ l.items
worker_items p (Caller c) r l = refl
worker_items p (Worker w) r l = grind (arith, reply_items r w.index l)

-- what is listed after the entry: what is left after the worker and the cancel, and then what became active
pub first_listed : (s : Layout) (past : List Entry) (e : Entry) (p : PoolId) → IsLegal s (e ∷ past)
    → map (task_for s) (worklist s (e ∷ past) p) ≡ (pool_before_activation s past p e (pool_of s past p)).listed
    ++ map (task_for s) (made_active s past p e)
first_listed s past e p legal =
    ap (map (task_for s)) (worklists_go_on s past e p legal)
    ∙ map-append (task_for s) (filter (is_left past e) (worklist s past p)) (made_active s past p e)
    ∙ ap (λ ts. ts ++ map (task_for s) (made_active s past p e)) (left_listed s past e p legal)

pub first_items : (s : Layout) (past : List Entry) (e : Entry) (p : PoolId)
    → (pool_before_activation s past p e (pool_of s past p)).items ≡ s.items
first_items s past e p =
    (cancelled_others s p e (ending past e) (pool_after_worker p e.who e.reply (pool_of s past p))).items
    ∙ worker_items p e.who e.reply (pool_of s past p)

pub pools_refine : (s : Layout) (past : List Entry) (e : Entry) (p : PoolId) → IsLegal s (e ∷ past)
    → pool_of s (e ∷ past) p ≡ pool_after s past p e (pool_of s past p)
pools_refine s past e p legal =
    let m : PoolState = pool_before_activation s past p e (pool_of s past p) in
    let new : List Queueing = made_active s past p e in
    let slots : m.slots ≡ (pool_after_worker p e.who e.reply (pool_of s past p)).slots =
    (cancelled_others s p e (ending past e) (pool_after_worker p e.who e.reply (pool_of s past p))).slots in
    same_pool_state (pool_of s (e ∷ past) p) (record m { listed = m.listed ++ map (task_for s) new })
    (sym (first_items s past e p)) (first_listed s past e p legal) (slots_refine s past e p legal ∙ sym slots)
    ∙ sym (activation_is s new m)

pub pools_at_first : (s : Layout) (p : PoolId) → pool_of s [] p ≡ new_pool_state s.items s.workers
unfolding worklist became_active is_enlisted is_asleep last_start
pools_at_first s p =
    same_pool_state (pool_of s [] p) (new_pool_state s.items s.workers) refl refl
    (same_rows new_slot (slot_of s [] p) (indices s) (λ x. refl))
