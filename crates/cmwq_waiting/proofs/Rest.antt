-- What lasts where a history is at rest.
use Rattle.std.proofs.Common.{◌≡◌, ◌∙◌, ◌∷◌, ◌<◌, ◌≤◌, Bool, List, None, Option, Some, ℕ, ap, arith, count_by, eq-eqb}
use Rattle.std.proofs.Common.{eqb-true, false, find, inl, length, not, refl, subst, suc, sym, true, zero, []}
use Rattle.std.specs.Prelude.{if◌then◌else◌, Contains, IsTrue, is_some, min, nat_lt, option_and_then, slice_index_or}
use Rattle.std.specs.List.{list_all}
use Rattle.std.specs.Option.{option_map_or}
use Rattle.std.proofs.lemmas.Bool.{and_from, and_parts, both_ways, false_from_ne_true}
use Rattle.std.proofs.lemmas.Bool.Decides.{nat_tests}
use Rattle.std.proofs.lemmas.Option.{same_Some}
use Rattle.cmwq_lemmas.proofs.Lists.{count_by-none, find_none}
use Rattle.cmwq_lemmas.proofs.Members.{In, all_in, contained_in, filter_in, in_any, in_contained, in_filter, of_in}
unfoldable use Rattle.cmwq_model.specs.Prelude.{IsLegal, is_active, max_active, next, queueings, runnable, width}
use Rattle.cmwq_model.specs.Prelude.{Layout, has_numbers, has_run, indices, is_asleep, is_below_max_active, is_holding}
use Rattle.cmwq_model.specs.Prelude.{is_layout, is_listed, is_live, is_queue, is_startable, is_started, item_run}
use Rattle.cmwq_model.specs.Prelude.{item_runs, no_queue, pool_at, queueing_at, run, runs_awake, same_pool, still_open}
use Rattle.cmwq_model.specs.Prelude.{worker_at, worklist}
use Rattle.cmwq_model.specs.Widths.{is_shut_down, sets_max, width_set, width_told}
use Rattle.cmwq_model.specs.declared.call.Call.{Call}
use Rattle.cmwq_model.specs.declared.entry.Entry.{Entry}
use Rattle.cmwq_model.specs.declared.id.PoolId.{PoolId}
use Rattle.cmwq_model.specs.declared.id.Who.{Who}
use Rattle.cmwq_model.specs.declared.id.Who.TheVariants.{Worker}
use Rattle.cmwq_model.specs.declared.id.WorkerId.{WorkerId}
use Rattle.cmwq_model.specs.declared.record.Queueing.{Queueing}
use Rattle.cmwq_model.specs.declared.record.Start.{Start}
use Rattle.cmwq_model.specs.declared.reply.Reply.{Reply}
use Rattle.cmwq_model.specs.declared.shape.QueueShape.{QueueShape}
use Rattle.cmwq_theory_steps.specs.ItemQueueings.{queueing_run}
use Rattle.cmwq_theory_steps.specs.Places.{is_on, open_on}
use Rattle.cmwq_theory_steps.proofs.Active.{open_ranked, ways}
use Rattle.cmwq_theory_steps.proofs.Causes as cause
use Rattle.cmwq_theory_steps.proofs.Causes.{Cause, cause_of}
use Rattle.cmwq_theory_steps.proofs.Ended.{found_open}
use Rattle.cmwq_theory_steps.proofs.ItemSteps.{items_are_run}
use Rattle.cmwq_theory_steps.proofs.Joined.{active_go_on}
use Rattle.cmwq_theory_steps.proofs.Pools.{runs_are_in_pools}
use Rattle.cmwq_theory_steps.proofs.Ranks.{Ranked, is_below}
use Rattle.cmwq_theory_steps.proofs.Reasons.{legal_fits}
use Rattle.cmwq_theory_steps.proofs.StartsListed.{IsFound}
use Rattle.cmwq_theory_steps.proofs.Worklist.{worklist_is}
use Rattle.cmwq_theory_wakes.specs.Starting.{allows_start, worker_is_idle}
use Rattle.cmwq_refinement.proofs.PlacesFit.{open_there}
use Rattle.cmwq_waits.specs.Refused.{is_of_run}
use Rattle.cmwq_waits.specs.Registered.{is_run_of}
use Rattle.cmwq_waits.specs.declared.run_wait.RunWait.{RunWait}
use Rattle.cmwq_waits.proofs.Running.{is_running}
use Rattle.cmwq_waiting.specs.Rest.{EachRunWaits, NoneRuns, NoneStarts, OnlyFrozenAreOpen}
use Rattle.cmwq_waits.specs.Begun.{waits_of}
use Rattle.cmwq_waiting.proofs.Pools.{IdleOrAll, all_enlisted, idle_or_all, one_idle}
use Rattle.cmwq_waits.proofs.Begun.{waits_are_waiting}
use Rattle.cmwq_waiting.proofs.Waits.{awake_does_not}

-- ---- lists

pub is_found : {X : Type 0} (p : X → Bool) (xs : List X) (x : X) → In x xs → p x ≡ true → is_some (find p xs) ≡ true
is_found {X = X} p xs x here passes = by (find p xs) refl
  where
    by : (o : Option X) → find p xs ≡ o → is_some o ≡ true
    by None none = absurd (both_ways _ (of_in (λ y. p y ≡ false) xs x (find_none p xs none) here) passes)
    by (Some y) some = refl

-- ---- what a worker runs

pub record IsRunAt (s : Layout) (past : List Entry) (w : WorkerId) : Type 0 where
  pub queueing : Queueing
  pub runs : queueing_run past (Worker w) ≡ Some queueing
  pub is_open : Contains (still_open past) queueing
  pub started : is_started past queueing.number ≡ true

pub run_at : (s : Layout) (past : List Entry) (w : WorkerId) → IsLegal s past → has_run past w ≡ true → IsRunAt s past w
run_at s past w legal has = by (run past w) refl has
  where
    by : (o : Option ℕ) → run past w ≡ o → is_some o ≡ true → IsRunAt s past w
    by None none h = absurd (cc h)
    by (Some n) is h =
        let r = runs_are_in_pools s past w n legal is in
        let its : queueing_run past (Worker w) ≡ Some r.queueing =
        ap (option_and_then (queueing_at past)) is ∙ r.found in
        let k = is_running s past w r.queueing legal its in
        record { queueing = r.queueing; runs = its; is_open = k.is_open; started = k.has_started }

-- ---- the wait of a run

pub record ItsWait (first : ℕ) (past : List Entry) (x : Queueing) : Type 0 where
  pub wait : RunWait
  pub there : In wait (waits_of first past)
  pub run : wait.run ≡ x

pub its_wait : (first : ℕ) (s : Layout) (past : List Entry) → IsLegal s past → EachRunWaits first past
    → (x : Queueing) → Contains (still_open past) x → is_started past x.number ≡ true → ItsWait first past x
its_wait first s past legal each x here started =
    let k = in_any (is_of_run x.number) (waits_of first past) (each x here started) in
    let w = k.0 in
    let opened = (waits_are_waiting first s past legal w (in_contained (waits_of first past) w k.1)).is_open in
    let found_w = of_in (IsFound past) (still_open past) w.run (found_open past)
    (contained_in (still_open past) w.run opened) in
    let found_x = of_in (IsFound past) (still_open past) x (found_open past) (contained_in (still_open past) x here) in
    record {
      wait = w;
      there = k.1;
      run = same_Some w.run x
          (sym found_w ∙ ap (queueing_at past) (eqb-true w.run.number x.number k.2) ∙ found_x);
    }

module _ (first : ℕ) (s : Layout) (past : List Entry) (legal : IsLegal s past) (each : EachRunWaits first past) where
  -- no run holds a pool
  none_awake : (w : WorkerId) → runs_awake past w ≡ false
  none_awake w = false_from_ne_true _ (λ awake.
      let parts = and_parts (has_run past w) (not (is_asleep past w)) awake in
      let r = run_at s past w legal parts.0 in
      let up : is_asleep past w ≡ false = let a = parts.1 in grind arith in
      let wait = its_wait first s past legal each r.queueing r.is_open r.started in
      let other = awake_does_not first s past w wait.wait legal up wait.there in
      let same : wait.wait.run.number ≡ r.queueing.number = ap (λ (x : Queueing). x.number) wait.run in
      both_ways _ other (ap (λ o. is_run_of o wait.wait) r.runs ∙ eq-eqb wait.wait.run.number r.queueing.number same))

  none_hold : (p : PoolId) → runnable s past p ≡ 0
  unfolding runnable
  none_hold p = count_by-none (is_holding s past p) (indices s)
      (all_in (λ x. is_holding s past p x ≡ false) (indices s)
      (λ x here. let down = none_awake (worker_at p x) in grind (arith, down)))

  -- what is active and has not started, and whose item has no run, may start
  may_start : (y : Queueing) → In y (still_open past) → is_active s past y ≡ true → is_started past y.number ≡ false
      → item_runs past y.item.0 ≡ false → allows_start s past (pool_at s y.place) ≡ true
  unfolding next
  may_start y here active unstarted free =
      let p = pool_at s y.place in
      let made = (in_filter (is_live past) (queueings past) y here).0 in
      let own_pool : same_pool p p ≡ true = grind (arith, nat_tests) in
      let listed : is_listed s past p y ≡ true = grind (arith, active, unstarted, own_pool) in
      let there = of_in _ (queueings past) y (worklist_is s past p).all_stand made listed in
      and_from _ _ (is_found (is_startable past) (worklist s past p) y (contained_in (worklist s past p) y there)
      (ap not free)) (ap (λ n. not (nat_lt 0 n)) (none_hold p))

  -- so all workers of its pool have runs
  pub occupied : NoneStarts s past → (y : Queueing) → In y (still_open past)
      → is_active s past y ≡ true → is_started past y.number ≡ false → item_runs past y.item.0 ≡ false → (x : ℕ)
      → x < s.workers → has_run past (worker_at (pool_at s y.place) x) ≡ true
  occupied rests y here active unstarted free x less = by (idle_or_all s past p legal)
    where
      p : PoolId
      p = pool_at s y.place

      cpu : p.cpu.0 < s.cpus
      cpu = (open_there s past y legal here).cpu

      starts : (v : ℕ) → v < s.workers → worker_is_idle past (worker_at p v) ≡ true → ⊥
      starts v within idle =
          both_ways _ (rests (worker_at p v) (cpu, within)) (and_from _ _ idle (may_start y here active unstarted free))

      by : IdleOrAll s past p → has_run past (worker_at p x) ≡ true
      by (one_idle v within idle) = absurd (starts v within idle)
      by (all_enlisted every) = by_run (has_run past (worker_at p x)) refl
        where
          by_run : (b : Bool) → has_run past (worker_at p x) ≡ b → has_run past (worker_at p x) ≡ true
          by_run true is = is
          by_run false is = absurd (starts x less (and_from _ _ (every x less) (ap not is)))

-- ---- the workers and the places of a layout

some_workers : (s : Layout) → IsTrue (is_layout s) → 0 < s.workers
some_workers s sound = grind (arith, nat_tests, sound)

width_there : (queues : List QueueShape) (q : ℕ) → list_all is_queue queues ≡ true → q < length queues
    → 0 < (slice_index_or queues q no_queue).max_active
width_there [] q all less = absurd (omega (arith, less))
width_there (x ∷ xs) zero all less = grind (arith, nat_tests, all)
width_there (x ∷ xs) (suc q) all less =
    width_there xs q (and_parts (is_queue x) (list_all is_queue xs) all).1 (omega (arith, less))

wider_than_none : (s : Layout) (past : List Entry) (who : Who) (c : Call) (r : Reply) (n : ℕ) → Cause s past who c r
    → has_numbers s c ≡ true → width_told r ≡ Some n → 0 < n
wider_than_none s past who c r n (cause.widened w q m gone) fits told =
    let some : 1 ≤ m = grind (arith, nat_tests, fits) in
    subst (λ k. 0 < k) (same_Some (min m 512) n told) (omega (arith, some))
wider_than_none s past who c r n other fits told = absurd (cc told)

some_places : (s : Layout) (past : List Entry) (q : ℕ) → IsTrue (is_layout s) → IsLegal s past → q < length s.queues
    → 0 < max_active s past q
unfolding max_active IsLegal
some_places s [] q sound legal less = width_there s.queues q (grind (arith, sound)) less
some_places s (e ∷ past) q sound legal less = by (width_set e q) refl (some_places s past q sound legal.2 less)
  where
    fits_all : has_numbers s e.call ≡ true
    fits_all = let fit = legal_fits s past e legal in grind (arith, fit)

    told : (b : Bool) (n : ℕ) → (if b then width_told e.reply else None) ≡ Some n → width_told e.reply ≡ Some n
    told true n h = h
    told false n h = absurd (cc h)

    by : (o : Option ℕ) → width_set e q ≡ o → 0 < max_active s past q
        → 0 < option_map_or (λ n. n) o (max_active s past q)
    by None none before = before
    by (Some n) is before =
        wider_than_none s past e.who e.call e.reply n (cause_of s past e legal) fits_all
        (told (sets_max e.call q) n is)

-- ---- with no run under way

item_free : (s : Layout) (past : List Entry) (i : ℕ) → IsLegal s past → NoneRuns past → item_runs past i ≡ false
item_free s past i legal none = by (item_run past i) refl
  where
    by : (o : Option Start) → item_run past i ≡ o → is_some o ≡ false
    by None is = refl
    by (Some start) is =
        let w = (items_are_run s past i start legal is).0 in
        let r = run_at s past start.worker legal (ap is_some w) in
        absurd (both_ways _ (none r.queueing r.is_open) r.started)

none_active : (s : Layout) (past : List Entry) → IsTrue (is_layout s) → IsLegal s past → NoneStarts s past
    → NoneRuns past → (y : Queueing) → In y (still_open past) → is_active s past y ≡ false
none_active s past sound legal rests none y here = false_from_ne_true _ (λ active.
    let unstarted = none y (in_contained (still_open past) y here) in
    let each : EachRunWaits 0 past = λ x there started. absurd (both_ways _ (none x there) started) in
    let runs = occupied 0 s past legal each rests y here active unstarted (item_free s past y.item.0 legal none) 0
    (some_workers s sound) in
    let r = run_at s past (worker_at (pool_at s y.place) 0) legal runs in
    absurd (both_ways _ (none r.queueing r.is_open) r.started))

pub not_below : (s : Layout) (past : List Entry) (y : Queueing) → In y (still_open past) → is_active s past y ≡ false
    → is_below_max_active s past y ≡ false
unfolding queueings
not_below s [] y here inactive = absurd here
not_below s (e ∷ past) y here inactive =
    let live = (in_filter (is_live (e ∷ past)) (queueings (e ∷ past)) y here).1 in
    let is = sym (active_go_on s past e y) ∙ inactive in grind (arith, live, is)

pub place_of : (x : Queueing) → is_on x.place.queue.0 x.place.cpu.0 x ≡ true
place_of x = grind (arith, nat_tests)

shut : (s : Layout) (past : List Entry) (q : ℕ) → 0 < max_active s past q → nat_lt 0 (width s past q) ≡ false
    → is_shut_down s past q ≡ true
unfolding width
shut s past q some none = grind (arith, nat_tests, some, none)

pub only_frozen_are_open : OnlyFrozenAreOpen
only_frozen_are_open s past sound legal rests none x here =
    shut s past q (some_places s past q sound legal (open_there s past x legal (contained_in
    (still_open past) x here)).queue)
    (at_front (open_on past q c) (λ y there. there) (open_ranked past q c)
    (filter_in (is_on q c) (still_open past) x (contained_in (still_open past) x here) (place_of x)))
  where
    q : ℕ
    q = x.place.queue.0

    c : ℕ
    c = x.place.cpu.0

    at_front : (ys : List Queueing) → ((y : Queueing) → In y ys → In y (open_on past q c))
        → Ranked (λ y. count_by (is_below y) (open_on past q c)) 0 ys → In x ys → nat_lt 0 (width s past q) ≡ false
    at_front [] all ranked there = absurd there
    at_front (y ∷ ys) all ranked there =
        let there_too = all y (inl refl) in
        let opened = (in_filter (is_on q c) (still_open past) y there_too).0 in
        let low = not_below s past y opened (none_active s past sound legal rests none y opened) in
        let way = of_in _ (open_on past q c) y (ways s past q c) there_too in
        ap (λ n. nat_lt n (width s past q)) (sym ranked.0) ∙ sym way ∙ low
