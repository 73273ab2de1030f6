-- Which entries let an idle worker of a pool start something.
use Rattle.std.specs.Prelude.{◌⊎◌}
use Rattle.std.proofs.Common.{⊎_elim, append-nil}
use Rattle.std.proofs.lemmas.Option.{same_Some}
use Rattle.std.proofs.lemmas.Bool.{both_ways, and_parts, false_from_ne_true}
use Rattle.cmwq_model.specs.declared.call.Call.TheVariants as call
use Rattle.cmwq_model.specs.declared.reply.Reply.TheVariants as reply
use Rattle.cmwq_lemmas.proofs.Members.{In, of_in, found, filter_in, in_filter, in_append, in_option, contained_in}
use Rattle.cmwq_lemmas.proofs.Lists.{filter_all}
use Rattle.cmwq_theory_steps.specs.Common.{◌≡◌, inl, inr, ℕ, Bool, true, false, not, ◌&&◌, ◌||◌, List, [], ◌∷◌, ◌++◌}
use Rattle.cmwq_theory_steps.specs.Common.{find, filter, Option, Some, None, option_to_list, refl, sym, ap, ap₂, ◌∙◌}
use Rattle.cmwq_theory_steps.specs.Common.{subst, arith, is_some, option_map_or, if◌then◌else◌, nat_lt, nat_tests}
use Rattle.cmwq_theory_steps.specs.Common.{slice_get, AllByRecursion, find_none, Entry, Layout, PoolId, WorkerId}
use Rattle.cmwq_theory_steps.specs.Common.{Worker, Reply, Queueing, Start, IsLegal, is_at, pool_at, same_pool}
use Rattle.cmwq_theory_steps.specs.Common.{is_enlisted, has_run, runnable, run, item_run, item_runs, opening, opens}
use Rattle.cmwq_theory_steps.specs.Common.{next, worklist, newly_active, is_startable, queueings, still_open, is_live}
use Rattle.cmwq_theory_steps.specs.Common.{is_unstarted, unstarted_queueing, number_started, number_finished, finishes}
use Rattle.cmwq_theory_steps.specs.Common.{starts_item, start_in, answer, take_answer, start_of, started_answer}
use Rattle.cmwq_theory_steps.specs.Common.{enlisted_by, width, queue_at, zero, suc, item_of, queueing_at}
use Rattle.cmwq_theory_steps.specs.Common.{option_and_then, ◌≤◌, is_freezable, sets_max, width_told, frozen_after}
use Rattle.cmwq_theory_steps.specs.Common.{is_frozen, max_active, is_active, is_below_max_active, is_ahead, count_by}
use Rattle.cmwq_theory_steps.specs.Common.{number_cancelled, replaces, is_of_item, is_started, All_each}
use Rattle.cmwq_theory_steps.specs.Endings.{ending, survives}
use Rattle.cmwq_model.specs.Widths.{keeps_widths}
use Rattle.cmwq_theory_steps.specs.RunSteps.{ends_run}
use Rattle.cmwq_theory_steps.specs.Activations.{is_left, is_in, behind_width, is_of_same_pwq, open_of_same_pwq, waits}
use Rattle.cmwq_theory_steps.specs.Activations.{is_below_max_active_at_once}
use Rattle.cmwq_theory_steps.specs.ItemQueueings.{ended_by}
use Rattle.cmwq_theory_steps.proofs.WorklistSteps.{worklists_go_on}
use Rattle.cmwq_theory_steps.proofs.Worklist.{worklist_is}
use Rattle.cmwq_theory_steps.proofs.NewlyActive.{newly_active_are, widened_make_active}
use Rattle.cmwq_theory_steps.proofs.Joined.{listed_live, active_go_on}
use Rattle.cmwq_theory_steps.proofs.Pools.{same_pool-true, queued_where_it_runs, unstarted_alone, runs_are_in_pools}
use Rattle.cmwq_theory_steps.proofs.ItemSteps.{items_run_on, items_are_run, starts_some}
use Rattle.cmwq_theory_steps.proofs.ItemRuns.{one_worker}
use Rattle.cmwq_theory_steps.proofs.Entries.{is_at-true}
use Rattle.cmwq_theory_steps.proofs.Fresh.{finishes_run}
use Rattle.cmwq_theory_steps.proofs.Pending.{opening_opens}
use Rattle.cmwq_theory_steps.proofs.EndsAsTold.{ends_as_told}
use Rattle.cmwq_theory_steps.proofs.Endings.{open_go_on}
use Rattle.cmwq_theory_steps.proofs.PendingSteps.{none_opened}
use Rattle.cmwq_theory_wakes.specs.Starting.{allows_start, worker_is_idle, would_start, leaves_next, is_finish, Touches}
use Rattle.cmwq_theory_wakes.specs.Starting.{FinishesIn, Attendant, IsAttended, may_widen}
use Rattle.cmwq_theory_wakes.specs.Starting as touch
use Rattle.cmwq_theory_wakes.proofs.Holding.{LetsGo, lets_go, was_let_go}

-- ---- a take starts something exactly if the worker is idle and its pool allows a start

pub idle_start_alike : (s : Layout) (past : List Entry) (w : WorkerId)
    → is_some (number_started (answer s past (Worker w) call.Take)) ≡ would_start s past w
unfolding answer take_answer
idle_start_alike s past w =
    at (is_enlisted past w) (has_run past w) (next s past w.pool)
  where
    one : (x : Queueing) (n : Option ℕ) (held : Bool)
        → is_some (number_started (if held then reply.Held else started_answer x.number n)) ≡ not held
    one x None held = grind arith
    one x (Some y) held = grind arith

    starting : (o : Option Queueing)
        → is_some (number_started (start_of s past w o)) ≡ (is_some o && not (nat_lt 0 (runnable s past w.pool)))
    starting None = refl
    starting (Some x) = one x (enlisted_by s past w) (nat_lt 0 (runnable s past w.pool))

    at : (enlisted runs : Bool) (o : Option Queueing)
        → is_some (number_started (if not enlisted || runs then reply.Misuse else start_of s past w o))
        ≡ ((enlisted && not runs) && (is_some o && not (nat_lt 0 (runnable s past w.pool))))
    at false runs o = refl
    at true true o = refl
    at true false o = starting o

-- ---- an item's run is over only if it has finished

over_finishes : (s : Layout) (past : List Entry) (e : Entry) (i : ℕ) (start : Start) → IsLegal s (e ∷ past)
    → item_run past i ≡ Some start → item_runs (e ∷ past) i ≡ false → finishes start.number e ≡ true
over_finishes s past e i start legal is free =
    at (starts_item past e i) refl (finishes start.number e)
    (subst (λ o. is_some o ≡ false) (items_run_on s past e i legal
    ∙ ap (λ o. if starts_item past e i then start_in e else if ends_run e o then None else o) is) free)
  where
    at : (b : Bool) → starts_item past e i ≡ b → (f : Bool)
        → is_some (if b then start_in e else if f then None else Some start) ≡ false → f ≡ true
    at true st f k =
        let begun = starts_some past e i (start_in e) refl st in
        absurd (both_ways _ k (ap is_some begun.1))
    at false st true k = refl
    at false st false k = cc

record RunOf (past : List Entry) (i : ℕ) : Type 0 where
  start : Start
  is : item_run past i ≡ Some start

run_there : (past : List Entry) (i : ℕ) → item_runs past i ≡ true → RunOf past i
run_there past i h = at (item_run past i) refl h
  where
    at : (o : Option Start) → item_run past i ≡ o → is_some o ≡ true → RunOf past i
    at None is k = cc
    at (Some start) is k = record { start = start; is = is }

-- ---- a queueing in a worklist is its item's unstarted queueing

record Stands (s : Layout) (past : List Entry) (p : PoolId) (x : Queueing) : Type 0 where
  pool : pool_at s x.place ≡ p
  unstarted : unstarted_queueing past x.item.0 ≡ Some x

stands : (s : Layout) (past : List Entry) (p : PoolId) (x : Queueing) → IsLegal s past → In x (worklist s past p)
    → Stands s past p x
stands s past p x legal there =
    let k = of_in _ (worklist s past p) x (worklist_is s past p).no_others there in
    let live = listed_live s past p x k.1 in
    let pool : same_pool (pool_at s x.place) p ≡ true = grind arith in
    let new : is_unstarted past x.item.0 x ≡ true = grind (arith, nat_tests) in
    let open_one = filter_in (is_live past) (queueings past) x (contained_in (queueings past) x k.0) live in
    record {
      pool = same_pool-true (pool_at s x.place) p pool;
      unstarted = of_in _ (still_open past) x (unstarted_alone s past x.item.0 legal) open_one new;
    }

-- ---- a queueing that could not start before may start once its item's run is over, or once it is active

-- if a queueing in a worklist waited for its item's run, and that run is over, a worker of that pool has finished it
finished_in : (s : Layout) (past : List Entry) (e : Entry) (p : PoolId) (x : Queueing) → IsLegal s (e ∷ past)
    → In x (worklist s past p) → item_runs past x.item.0 ≡ true → item_runs (e ∷ past) x.item.0 ≡ false
    → FinishesIn e p
unfolding IsLegal
finished_in s past e p x legal there ran over =
    let r = run_there past x.item.0 ran in
    let fin = over_finishes s past e x.item.0 r.start legal r.is over in
    let number = is_at-true (number_finished e.reply) r.start.number fin in
    let f = finishes_run s past e r.start.number legal number in
    let own = items_are_run s past x.item.0 r.start legal.2 r.is in
    let same = (one_worker s past f.worker r.start.worker r.start.number r.start.number x.item.0 legal.2 f.is_run own.0
    own.1 own.1).0 in
    let k = stands s past p x legal.2 there in
    record {
      worker = f.worker;
      by_worker = f.by_worker;
      pool = ap (λ (w : WorkerId). w.pool) same
          ∙ (sym (queued_where_it_runs s past x.item.0 r.start x legal.2 r.is k.unstarted) ∙ k.pool);
      finishes = ap is_some number;
    }

got_in : {X : Type 0} (xs : List X) (k : ℕ) (x : X) → slice_get xs k ≡ Some x → In x xs
got_in [] k x h = cc
got_in (y ∷ ys) zero x h = inl (same_Some y x h)
got_in (y ∷ ys) (suc k) x h = inr (got_in ys k x h)

behind_place : (s : Layout) (past : List Entry) (o : Option Queueing) (x : Queueing) → behind_width s past o ≡ Some x
    → (y : Queueing) × (o ≡ Some y) × (pool_at s y.place ≡ pool_at s x.place)
behind_place s past None x h = cc
behind_place s past (Some y) x h =
    let got : slice_get (open_of_same_pwq past y) (width s past y.place.queue.0) ≡ Some x = grind arith in
    let on = (in_filter (is_of_same_pwq y) (still_open past) x
    (got_in (open_of_same_pwq past y) (width s past y.place.queue.0) x got)).1 in
    let queue : y.place.queue.0 ≡ x.place.queue.0 = grind (arith, nat_tests) in
    let cpu : y.place.cpu.0 ≡ x.place.cpu.0 = grind (arith, nat_tests) in
    (y, refl, ap₂ (λ q c. record { cpu = record { 0 = c }; high = (queue_at s q).high }) queue cpu)

-- a reply that opens a queueing finishes none
opens_no_finish : (r : Reply) → opens r ≡ true → number_finished r ≡ None
opens_no_finish r h = grind arith

free_before : (s : Layout) (past : List Entry) (e : Entry) (i : ℕ) → IsLegal s (e ∷ past) → opens e.reply ≡ true
    → item_runs (e ∷ past) i ≡ false → item_runs past i ≡ false
free_before s past e i legal opens_one over = false_from_ne_true _ (λ ran.
    let r = run_there past i ran in
    let finished = over_finishes s past e i r.start legal r.is over in
    let number = is_at-true (number_finished e.reply) r.start.number finished in
    let none = opens_no_finish e.reply opens_one in
    cc)

-- ---- a pool has a next queueing, and had none before

finish_in : (s : Layout) (past : List Entry) (e : Entry) (p : PoolId) (y : Queueing) → IsLegal s (e ∷ past)
    → ending past e ≡ Some y → pool_at s y.place ≡ p → is_finish e.reply ≡ true → FinishesIn e p
unfolding IsLegal
finish_in s past e p y legal ends at over = of_number (number_finished e.reply) refl over
  where
    told : (r : Reply) (n : ℕ) → number_finished r ≡ Some n → (w : WorkerId) → run past w ≡ Some n
        → ended_by past (Worker w) (item_of e) r ≡ queueing_at past n
    told (reply.Finished m) n is w runs = ap (option_and_then (queueing_at past)) runs
    told r n is w runs = cc

    of_number : (o : Option ℕ) → number_finished e.reply ≡ o → is_some o ≡ true → FinishesIn e p
    of_number None is h = cc
    of_number (Some n) is h =
        let f = finishes_run s past e n legal is in
        let r = runs_are_in_pools s past f.worker n legal.2 f.is_run in
        let found_at : queueing_at past n ≡ Some y =
        sym (told e.reply n is f.worker f.is_run)
        ∙ (sym (ap (λ a. ended_by past a (item_of e) e.reply) f.by_worker)
        ∙ (sym (ends_as_told s past e legal) ∙ ends)) in
        let same : r.queueing ≡ y = same_Some r.queueing y (sym r.found ∙ found_at) in
        record {
          worker = f.worker;
          by_worker = f.by_worker;
          pool = sym r.pool ∙ (ap (λ (x : Queueing). pool_at s x.place) same ∙ at);
          finishes = over;
        }

not-true : (b : Bool) → not b ≡ true → b ≡ false
not-true b h = grind arith

-- a freeze makes nothing active
frozen_narrow : (s : Layout) (past : List Entry) (e : Entry) (q : ℕ) → e.reply ≡ reply.Frozen
    → width s (e ∷ past) q ≤ width s past q
unfolding width is_frozen max_active
frozen_narrow s past e q is = at (is_freezable s q) (is_frozen past) refl
  where
    told : (b : Bool) → option_map_or (λ n. n) (if b then width_told e.reply else None) (max_active s past q)
        ≡ max_active s past q
    told true = ap (λ r. option_map_or (λ n. n) (width_told r) (max_active s past q)) is
    told false = refl

    narrow : (f z : Bool) (m : ℕ) → (if f && true then 0 else m) ≤ (if f && z then 0 else m)
    narrow f z m = grind arith

    at : (f z : Bool) → is_frozen past ≡ z
        → (if is_freezable s q && frozen_after e.reply (is_frozen past) then 0
        else option_map_or (λ n. n) (if sets_max e.call q then width_told e.reply else None) (max_active s past q))
        ≤ (if is_freezable s q && is_frozen past then 0 else max_active s past q)
    at f z same =
        rw (told (sets_max e.call q))
        (subst (λ r. (if is_freezable s q && frozen_after r (is_frozen past) then 0 else max_active s past q)
        ≤ (if is_freezable s q && is_frozen past then 0 else max_active s past q)) (sym is)
        (narrow (is_freezable s q) (is_frozen past) (max_active s past q)))

frozen_open : (s : Layout) (past : List Entry) (e : Entry) → IsLegal s (e ∷ past) → e.reply ≡ reply.Frozen
    → still_open (e ∷ past) ≡ still_open past
frozen_open s past e legal is =
    open_go_on s past e legal
    ∙ (ap (λ o. filter (survives past e) (still_open past) ++ option_to_list o) (none_opened past e (ap opens is))
    ∙ (append-nil (filter (survives past e) (still_open past))
    ∙ filter_all (survives past e) (still_open past) (All_each _ (still_open past) spared)))
  where
    spared : (y : Queueing) → survives past e y ≡ true
    spared y =
        ap (λ (r : Reply). not (is_at (number_finished r) y.number) && not (is_at (number_cancelled r) y.number)
        && not (replaces r && is_of_item y.item.0 e && not (is_started past y.number))) is

-- an open queueing that is below max_active is active
below_is_active : (s : Layout) (past : List Entry)
    → AllByRecursion (λ x. is_live past x ≡ true → is_below_max_active s past x ≡ true → is_active s past x ≡ true)
    (queueings past)
unfolding queueings
below_is_active s [] = tt
below_is_active s (e ∷ past) =
    All_each _ (queueings (e ∷ past)) (λ x live below. grind (arith, active_go_on s past e x))

none_in_freeze : (s : Layout) (past : List Entry) (e : Entry) (x : Queueing) → IsLegal s (e ∷ past)
    → e.reply ≡ reply.Frozen → In x (newly_active s past e) → ⊥
none_in_freeze s past e x legal is there =
    let here = in_filter (λ y. is_below_max_active s (e ∷ past) y && waits s past y) (still_open past) x
    (subst (In x) (widened_make_active s past e legal (ap keeps_widths is)) there) in
    let both = and_parts (is_below_max_active s (e ∷ past) x) (waits s past x) here.1 in
    let known = in_filter (is_live past) (queueings past) x here.0 in
    let narrow = frozen_narrow s past e x.place.queue.0 is in
    let below : nat_lt (count_by (is_ahead x) (still_open past)) (width s (e ∷ past) x.place.queue.0) ≡ true =
    subst (λ ys. nat_lt (count_by (is_ahead x) ys) (width s (e ∷ past) x.place.queue.0) ≡ true)
    (frozen_open s past e legal is) both.0 in
    let was : is_below_max_active s past x ≡ true = grind (arith, nat_tests) in
    let active = of_in _ (queueings past) x (below_is_active s past) known.0 known.1 was in
    both_ways (is_active s past x) (not-true (is_active s past x) both.1) active

new_next : (s : Layout) (past : List Entry) (e : Entry) (p : PoolId) (x : Queueing) → IsLegal s (e ∷ past)
    → In x (newly_active s past e) → pool_at s x.place ≡ p → item_runs (e ∷ past) x.item.0 ≡ false
    → (k : Bool) → keeps_widths e.reply ≡ k → Touches s past e p ⊎ FinishesIn e p
new_next s past e p x legal there pool free false keeps = by_reply e.reply refl keeps
  where
    by_reply : (r : Reply) → e.reply ≡ r → keeps_widths e.reply ≡ false → Touches s past e p ⊎ FinishesIn e p
    by_reply (reply.Width n) is h = inl (touch.widens (ap may_widen is))
    by_reply reply.Thawed is h = inl (touch.widens (ap may_widen is))
    by_reply reply.Frozen is h = absurd (none_in_freeze s past e x legal is there)
    by_reply r is h = absurd (both_ways _ h (ap keeps_widths is))
new_next s past e p x legal there pool free true keeps = ⊎_elim by_end by_opening
    (in_append (filter (waits s past) (option_to_list (behind_width s past (ending past e))))
    (filter (is_below_max_active_at_once s past e) (option_to_list (opening past e))) x
    (subst (In x) (newly_active_are s past e legal keeps) there))
  where
    finished : (y : Queueing) → ending past e ≡ Some y → pool_at s y.place ≡ p → (f : Bool) → is_finish e.reply ≡ f
        → Touches s past e p ⊎ FinishesIn e p
    finished y ends at false before = inl (touch.ends y ends at before)
    finished y ends at true after = inr (finish_in s past e p y legal ends at after)

    by_end : In x (filter (waits s past) (option_to_list (behind_width s past (ending past e))))
        → Touches s past e p ⊎ FinishesIn e p
    by_end h =
        let k = in_filter (waits s past) (option_to_list (behind_width s past (ending past e))) x h in
        let b = behind_place s past (ending past e) x (in_option (behind_width s past (ending past e)) x k.0) in
        finished b.0 b.1 (b.2 ∙ pool) (is_finish e.reply) refl

    by_opening : In x (filter (is_below_max_active_at_once s past e) (option_to_list (opening past e)))
        → Touches s past e p ⊎ FinishesIn e p
    by_opening h =
        let k = in_filter (is_below_max_active_at_once s past e) (option_to_list (opening past e)) x h in
        let is = in_option (opening past e) x k.0 in
        inl (touch.opens x is pool (free_before s past e x.item.0 legal (opening_opens past e x is) free))

let_next : (s : Layout) (past : List Entry) (e : Entry) (p : PoolId) → IsLegal s (e ∷ past)
    → is_some (next s past p) ≡ false → is_some (next s (e ∷ past) p) ≡ true → Touches s past e p ⊎ FinishesIn e p
unfolding next
let_next s past e p legal none some =
    at (find (is_startable past) (worklist s past p)) refl none
    (find (is_startable (e ∷ past)) (worklist s (e ∷ past) p)) refl some
  where
    left : (x : Queueing) → find (is_startable past) (worklist s past p) ≡ None
        → is_startable (e ∷ past) x ≡ true
        → In x (filter (is_left past e) (worklist s past p)) → Touches s past e p ⊎ FinishesIn e p
    left x nothing starts h =
        let k = in_filter (is_left past e) (worklist s past p) x h in
        let stuck = of_in _ (worklist s past p) x (find_none (is_startable past) (worklist s past p) nothing) k.0 in
        inr (finished_in s past e p x legal k.0 (grind arith) (grind arith))

    right : (x : Queueing) → is_startable (e ∷ past) x ≡ true
        → In x (filter (is_in s p) (newly_active s past e)) → Touches s past e p ⊎ FinishesIn e p
    right x starts h =
        let k = in_filter (is_in s p) (newly_active s past e) x h in
        new_next s past e p x legal k.0 (same_pool-true (pool_at s x.place) p k.1) (grind arith) (keeps_widths e.reply)
        refl

    at : (o : Option Queueing) → find (is_startable past) (worklist s past p) ≡ o → is_some o ≡ false
        → (n : Option Queueing) → find (is_startable (e ∷ past)) (worklist s (e ∷ past) p) ≡ n → is_some n ≡ true
        → Touches s past e p ⊎ FinishesIn e p
    at (Some y) was before n is after = cc
    at None was before None is after = cc
    at None was before (Some x) is after =
        let k = found (is_startable (e ∷ past)) (worklist s (e ∷ past) p) x is in
        ⊎_elim (left x was k.1) (right x k.1)
        (in_append (filter (is_left past e) (worklist s past p)) (filter (is_in s p) (newly_active s past e)) x
        (subst (In x) (worklists_go_on s past e p legal) k.0))

-- a worker that lets go of its pool leaves the next to the others, or finishes
let_go_touches : (s : Layout) (past : List Entry) (e : Entry) (p : PoolId) → LetsGo e p
    → Touches s past e p ⊎ FinishesIn e p
let_go_touches s past e p k = at e.reply refl k.lets
  where
    at : (r : Reply) → e.reply ≡ r → lets_go r ≡ true → Touches s past e p ⊎ FinishesIn e p
    at reply.Slept is h = inl (touch.leaves k.worker k.by_worker k.pool (ap leaves_next is))
    at (reply.Finished n) is h =
        inr (record { worker = k.worker; by_worker = k.by_worker; pool = k.pool; finishes = ap is_finish is })
    at r is h = cc

pub starts_allowed : (s : Layout) (past : List Entry) (e : Entry) → IsLegal s (e ∷ past) → (p : PoolId)
    → allows_start s past p ≡ false → allows_start s (e ∷ past) p ≡ true → Touches s past e p ⊎ FinishesIn e p
starts_allowed s past e legal p before after =
    let new = and_parts (is_some (next s (e ∷ past) p)) (not (nat_lt 0 (runnable s (e ∷ past) p))) after in
    let free : nat_lt 0 (runnable s (e ∷ past) p) ≡ false = grind arith in
    at (is_some (next s past p)) refl (nat_lt 0 (runnable s past p)) refl new.0 free
  where
    at : (a : Bool) → is_some (next s past p) ≡ a → (b : Bool) → nat_lt 0 (runnable s past p) ≡ b
        → is_some (next s (e ∷ past) p) ≡ true → nat_lt 0 (runnable s (e ∷ past) p) ≡ false
        → Touches s past e p ⊎ FinishesIn e p
    at false none b held some free = let_next s past e p legal none some
    at true there true held some free = let_go_touches s past e p (was_let_go s past e p legal held free)
    at true there false held some free = absurd (both_ways _ before (ap₂ (λ a b. a && not b) there held))
