-- At rest the waits of runs are a deadlock, where each run waits and nothing is frozen.
use Rattle.std.proofs.Common.{◌≡◌, ◌∙◌, ◌∷◌, ◌==◌, ◌≤◌, ◌<◌, ◌+◌, ◌⊎◌, Bool, List, None, Option, Some, ℕ, ap, ap₂}
use Rattle.std.proofs.Common.{arith, count_by, eq-eqb, false, filter, find, inl, inr, length, map, not, refl, subst}
use Rattle.std.proofs.Common.{suc, sym, true, zero, ⊎_elim, []}
use Rattle.std.specs.Prelude.{◌&&◌, ◌||◌, if◌then◌else◌, Contains, is_some, option_and_then, option_map}
use Rattle.std.specs.List.{list_any, sum_by}
use Rattle.std.specs.Option.{option_map_or}
use Rattle.std.proofs.lemmas.Bool.{and_from, and_parts, both_ways, false_from_ne_true, le-leb}
use Rattle.std.proofs.lemmas.Bool.Decides.{nat_tests}
use Rattle.std.proofs.lemmas.List.{length-map}
use Rattle.std.proofs.lemmas.List.Sums.{length-filter, sum_by-cons}
use Rattle.std.proofs.lemmas.Option.{same_Some}
use Rattle.cmwq_lemmas.proofs.Filters.{count_by-wider}
use Rattle.cmwq_lemmas.proofs.Lists.{All_each, count_by-cons, count_by-filter, filter_all, filter_shorter}
use Rattle.cmwq_lemmas.proofs.Members.{In, all_in, any_in, contained_in, filter_in, found, in_any, in_contained}
use Rattle.cmwq_lemmas.proofs.Members.{in_filter, in_mapped, of_in}
unfoldable use Rattle.cmwq_model.specs.Prelude.{IsLegal, is_active, width}
use Rattle.cmwq_model.specs.Prelude.{Layout, cancels_sync, has_run, holds_up, is_ahead, is_below_max_active, is_started}
use Rattle.cmwq_model.specs.Prelude.{item_run, item_runs, max_active, pool_at, queueing_at, same_pool, still_open}
use Rattle.cmwq_model.specs.Prelude.{worker_at}
use Rattle.cmwq_model.specs.declared.call.Call.{Call}
use Rattle.cmwq_model.specs.declared.call.Call.TheVariants as call
use Rattle.cmwq_model.specs.declared.entry.Entry.{Entry}
use Rattle.cmwq_model.specs.declared.id.PoolId.{PoolId}
use Rattle.cmwq_model.specs.declared.id.WorkerId.{WorkerId}
use Rattle.cmwq_model.specs.declared.record.Place.{Place}
use Rattle.cmwq_model.specs.declared.record.Queueing.{Queueing}
use Rattle.cmwq_model.specs.declared.record.Start.{Start}
use Rattle.cmwq_model.specs.declared.record.Ticket.{Ticket}
use Rattle.cmwq_theory_steps.specs.Places.{is_on, open_on}
use Rattle.cmwq_theory_steps.specs.Rising.{IsRising}
use Rattle.cmwq_theory_steps.proofs.Active.{first_active, ways_counted}
use Rattle.cmwq_theory_steps.proofs.EndsAsTold.{runs_are_queueings}
use Rattle.cmwq_theory_steps.proofs.Fronts.{IsFront}
use Rattle.cmwq_theory_steps.proofs.ItemRuns.{one_worker}
use Rattle.cmwq_theory_steps.proofs.ItemSteps.{items_are_run}
use Rattle.cmwq_theory_steps.proofs.Rising.{open_rise, rising_filter}
use Rattle.cmwq_theory_wakes.specs.Readiness.{is_unready}
use Rattle.cmwq_waits.specs.HeldUp.{has_run_of, have_all_places, have_all_workers, is_held_up, is_held_up_by, is_in}
use Rattle.cmwq_waits.specs.HeldUp.{is_in_pool, is_kept, is_of_item, members, places_ahead}
use Rattle.cmwq_waits.specs.declared.run_wait.RunWait.{RunWait}
use Rattle.cmwq_waits_laws.specs.Lasting.{scene_of}
use Rattle.cmwq_waits_laws.proofs.Apart.{is_run}
use Rattle.cmwq_waiting.specs.Rest.{AtRestNoneRuns, AtRestWaitsAreDeadlock, EachRunWaits, NoneShutDown, NoneStarts}
use Rattle.cmwq_waiting.specs.Rest.{NoneOpenAllReady}
use Rattle.cmwq_waits.specs.Begun.{waits_of}
use Rattle.cmwq_waiting.proofs.Rest.{its_wait, not_below, occupied, place_of, run_at}
use Rattle.cmwq_waits.proofs.Begun.{runs_by}

-- ---- counts

-- numbers among which there are all below one are as many at least
drop_one : (n : ℕ) (ns : List ℕ) → In n ns → length (filter (λ m. not (m == n)) ns) < length ns
drop_one n [] here = absurd here
drop_one n (m ∷ ms) here =
    grind (arith, nat_tests, drop_one n ms, filter_shorter (λ k. not (k == n)) ms, here)

covers : (n : ℕ) (ns : List ℕ) → ((i : ℕ) → i < n → In i ns) → n ≤ length ns
covers zero ns all = omega arith
covers (suc n) ns all =
    let left = filter (λ m. not (m == n)) ns in
    let more = covers n left (λ i less. filter_in (λ m. not (m == n)) ns i (all i (omega (arith, less)))
    (let other : (i == n) ≡ false = grind (arith, nat_tests, less) in ap not other)) in
    omega (arith, more, drop_one n ns (all n (omega arith)))

-- what is of some kinds is no more than all that is of each
either : {X : Type 0} (p q r : X → Bool) (xs : List X)
    → count_by (λ x. (p x || q x) && r x) xs ≤ count_by (λ x. p x && r x) xs + count_by (λ x. q x && r x) xs
either p q r [] = omega arith
either p q r (x ∷ xs) =
    grind (
      arith,
      count_by-cons (λ y. (p y || q y) && r y) x xs,
      count_by-cons (λ y. p y && r y) x xs,
      count_by-cons (λ y. q y && r y) x xs,
      either p q r xs,
    )

of_kinds : (c : Queueing → Bool) (ws : List RunWait) (xs : List Queueing)
    → count_by (λ y. has_run_of ws y.item.0 && c y) xs
    ≤ sum_by (λ (w : RunWait). count_by (λ y. (y.item.0 == w.run.item.0) && c y) xs) ws
of_kinds c [] xs = none xs
  where
    none : (ys : List Queueing) → count_by (λ y. has_run_of [] y.item.0 && c y) ys ≤ 0
    none [] = omega arith
    none (y ∷ ys) = omega (arith, count_by-cons (λ z. has_run_of [] z.item.0 && c z) y ys, none ys)
of_kinds c (w ∷ ws) xs =
    omega (
      arith,
      sum_by-cons (λ (v : RunWait). count_by (λ y. (y.item.0 == v.run.item.0) && c y) xs) w ws,
      either (λ y. w.run.item.0 == y.item.0) (λ y. has_run_of ws y.item.0) c xs,
      of_kinds c ws xs,
      count_by-wider (λ y. (w.run.item.0 == y.item.0) && c y) (λ y. (y.item.0 == w.run.item.0) && c y) xs
          (All_each _ xs (λ y is. grind (arith, nat_tests, is))),
    )

-- in a rising list whose first ones pass, whoever passes comes before whoever does not
front_ahead : (f : Queueing → Bool) (xs : List Queueing) (x y : Queueing) → IsFront f xs → IsRising xs → In x xs
    → In y xs
    → f x ≡ false → f y ≡ true → y.number < x.number
front_ahead f [] x y front rising here there no_x yes_y = absurd here
front_ahead f (z ∷ zs) x y front rising here there no_x yes_y =
    ⊎_elim
    (λ is_x. ⊎_elim
    (λ is_y. absurd (both_ways _ no_x (subst (λ v. f v ≡ true) (sym is_y ∙ is_x) yes_y)))
    (λ later_y. absurd (both_ways _
    (of_in (λ v. f v ≡ false) zs y (front.0 (subst (λ v. f v ≡ false) (sym is_x) no_x)) later_y) yes_y)) there)
    (λ later_x. ⊎_elim
    (λ is_y. subst (λ (v : Queueing). v.number < x.number) is_y
    (of_in (λ v. z.number < v.number) zs x rising.0 later_x))
    (λ later_y. front_ahead f zs x y front.1 rising.1 later_x later_y no_x yes_y) there) here

-- ---- what a ticket waits for that is not ready

record IsAwaited (past : List Entry) (n : ℕ) (c : Call) : Type 0 where
  queueing : Queueing
  here : In queueing (still_open past)
  up : (holds_up past n c queueing || (cancels_sync queueing.item.0 c && is_started past queueing.number)) ≡ true

-- the run of an item
record ItsRun (past : List Entry) (i : ℕ) : Type 0 where
  queueing : Queueing
  is_open : Contains (still_open past) queueing
  started : is_started past queueing.number ≡ true
  item : queueing.item.0 ≡ i

its_run : (s : Layout) (past : List Entry) (i : ℕ) → IsLegal s past → item_runs past i ≡ true → ItsRun past i
its_run s past i legal runs = by (item_run past i) refl runs
  where
    by : (o : Option Start) → item_run past i ≡ o → is_some o ≡ true → ItsRun past i
    by None none h = absurd (cc h)
    by (Some start) is h =
        let q = runs_are_queueings s past legal i start is in
        let w = (items_are_run s past i start legal is).0 in
        let r = run_at s past start.worker legal (ap is_some w) in
        let same : q.queueing ≡ r.queueing =
        same_Some q.queueing r.queueing (sym q.found ∙ sym (ap (option_and_then (queueing_at past)) w) ∙ r.runs) in
        record {
          queueing = r.queueing;
          is_open = r.is_open;
          started = r.started;
          item = ap (λ (x : Queueing). x.item.0) (sym same) ∙ q.item;
        }

of_run : (s : Layout) (past : List Entry) (n : ℕ) (i : ℕ) (c : Call) → IsLegal s past
    → ((j : ℕ) → cancels_sync j c ≡ (i == j)) → item_runs past i ≡ true → IsAwaited past n c
of_run s past n i c legal cancels runs =
    let r = its_run s past i legal runs in
    record {
      queueing = r.queueing;
      here = contained_in (still_open past) r.queueing r.is_open;
      up = let own : cancels_sync r.queueing.item.0 c ≡ true =
          cancels r.queueing.item.0 ∙ eq-eqb i r.queueing.item.0 (sym r.item) in
          let started = r.started in grind (arith, own, started);
    }

of_held : (past : List Entry) (n : ℕ) (c : Call)
    → is_some (option_map (λ (x : Queueing). x.number) (find (holds_up past n c) (still_open past))) ≡ true
    → IsAwaited past n c
of_held past n c some = by (find (holds_up past n c) (still_open past)) refl some
  where
    by : (o : Option Queueing) → find (holds_up past n c) (still_open past) ≡ o
        → is_some (option_map (λ (x : Queueing). x.number) o) ≡ true → IsAwaited past n c
    by None none h = absurd (cc h)
    by (Some x) is h =
        let k = found (holds_up past n c) (still_open past) x is in
        record { queueing = x; here = k.0; up = let up = k.1 in grind (arith, up) }

is_awaited : (s : Layout) (past : List Entry) (n : ℕ) (c : Call) → IsLegal s past → is_unready past n c ≡ true
    → IsAwaited past n c
is_awaited s past n (call.CancelSync i) legal unready =
    of_run s past n i.0 (call.CancelSync i) legal (λ j. refl) (some (item_run past i.0) unready)
  where
    some : (o : Option Start) → is_some (option_map (λ (start : Start). start.number) o) ≡ true → is_some o ≡ true
    some None h = absurd (cc h)
    some (Some start) h = refl
is_awaited s past n c legal unready = of_held past n c unready

pub none_open_all_ready : NoneOpenAllReady
none_open_all_ready s past legal none n c =
    false_from_ne_true _ (λ unready. let k = is_awaited s past n c legal unready in
    subst (In k.queueing) none k.here)

-- ---- the waits keep it

module _ (first : ℕ) (s : Layout) (past : List Entry) (legal : IsLegal s past) (each : EachRunWaits first past)
    (rests : NoneStarts s past) (none_shut : NoneShutDown s past) where
  abbrev ws : List RunWait
  ws = waits_of first past

  -- a run's item has a run that waits
  run_waits : (x : Queueing) → Contains (still_open past) x → is_started past x.number ≡ true
      → has_run_of ws x.item.0 ≡ true
  run_waits x here started =
      let wait = its_wait first s past legal each x here started in
      any_in (is_of_item x.item.0) ws wait.wait wait.there
      (eq-eqb wait.wait.run.item.0 x.item.0 (ap (λ (y : Queueing). y.item.0) wait.run))

  item_waits : (i : ℕ) → item_runs past i ≡ true → has_run_of ws i ≡ true
  item_waits i runs = let r = its_run s past i legal runs in
      subst (λ j. has_run_of ws j ≡ true) r.item (run_waits r.queueing r.is_open r.started)

  index : RunWait → ℕ
  index w = option_map_or (λ (start : Start). start.worker.index) (item_run past w.run.item.0) 0

  -- where all workers of a pool have runs, they are of waits
  module _ (p : Place) (busy : (x : ℕ) → x < s.workers → has_run past (worker_at (pool_at s p) x) ≡ true) where
    abbrev mine : List RunWait
    mine = filter (is_in_pool s p) ws

    of_worker : (i : ℕ) → i < s.workers → In i (map index mine)
    unfolding index
    of_worker i less =
        let r = run_at s past (worker_at (pool_at s p) i) legal (busy i less) in
        let wait = its_wait first s past legal each r.queueing r.is_open r.started in
        let k = is_run s past r.queueing legal (contained_in (still_open past) r.queueing r.is_open) r.started in
        let b = runs_by past (worker_at (pool_at s p) i) r.queueing r.runs in
        let worker : k.start.worker ≡ worker_at (pool_at s p) i =
        (one_worker s past k.start.worker (worker_at (pool_at s p) i) r.queueing.number r.queueing.number
        r.queueing.item.0 legal k.runs b.runs b.known b.known).0 in
        let place : pool_at s wait.wait.run.place ≡ pool_at s p =
        ap (λ (x : Queueing). pool_at s x.place) wait.run ∙ k.pool ∙ ap (λ (v : WorkerId). v.pool) worker in
        let its : index wait.wait ≡ i =
        ap (λ (x : Queueing). option_map_or (λ (start : Start). start.worker.index) (item_run past x.item.0) 0) wait.run
        ∙ ap (λ (o : Option Start). option_map_or (λ (start : Start). start.worker.index) o 0) k.is_its
        ∙ ap (λ (v : WorkerId). v.index) worker in
        subst (λ j. In j (map index mine)) its
        (in_mapped index mine wait.wait
        (filter_in (is_in_pool s p) ws wait.wait wait.there
        (ap (λ (r : PoolId). same_pool r (pool_at s p)) place ∙ own_pool (pool_at s p))))
      where
        own_pool : (r : PoolId) → same_pool r r ≡ true
        own_pool r = grind (arith, nat_tests)

    all_wait : have_all_workers s ws p ≡ true
    all_wait =
        let many = covers s.workers (map index mine) of_worker in
        le-leb s.workers (count_by (is_in_pool s p) ws)
        (omega (arith, many, length-map mine index, length-filter (is_in_pool s p) ws))

  -- what is active and has not started is kept
  active_kept : (y : Queueing) → In y (still_open past) → is_active s past y ≡ true → is_started past y.number ≡ false
      → (has_run_of ws y.item.0 ≡ true) ⊎ (have_all_workers s ws y.place ≡ true)
  active_kept y here active unstarted = by (item_runs past y.item.0) refl
    where
      by : (b : Bool) → item_runs past y.item.0 ≡ b
          → (has_run_of ws y.item.0 ≡ true) ⊎ (have_all_workers s ws y.place ≡ true)
      by true runs = inl (item_waits y.item.0 runs)
      by false free = inr (all_wait y.place (occupied first s past legal each rests y here active unstarted free))

  -- ---- what is not active

  module _ (x : Queueing) (here : In x (still_open past)) (inactive : is_active s past x ≡ false) where
    abbrev q : ℕ
    q = x.place.queue.0

    abbrev c : ℕ
    c = x.place.cpu.0

    abbrev on : List Queueing
    on = open_on past q c

    x_on : In x on
    x_on = filter_in (is_on q c) (still_open past) x here (place_of x)

    y_open : (y : Queueing) → In y on → In y (still_open past)
    y_open y there = (in_filter (is_on q c) (still_open past) y there).0

    abbrev lacks : Queueing → Bool
    lacks y = is_active s past y && not (has_run_of ws y.item.0)

    same_workers : (y : Queueing) → is_on q c y ≡ true → have_all_workers s ws y.place ≡ true
        → have_all_workers s ws x.place ≡ true
    same_workers y is all =
        let queue : y.place.queue.0 ≡ q = grind (arith, nat_tests, is) in
        let cpu : y.place.cpu.0 ≡ c = grind (arith, nat_tests, is) in
        sym (ap₂ (λ a b. have_all_workers s ws (record { queue = record { 0 = a }; cpu = record { 0 = b } })) queue cpu)
        ∙ all

    where_lacks : list_any lacks on ≡ true → have_all_workers s ws x.place ≡ true
    where_lacks some =
        let k = in_any lacks on some in
        let y = k.0 in
        let parts = and_parts (is_active s past y) (not (has_run_of ws y.item.0)) k.2 in
        let none : has_run_of ws y.item.0 ≡ false = let d = parts.1 in grind arith in
        let unstarted : is_started past y.number ≡ false = false_from_ne_true _ (λ started.
        absurd (both_ways _ none (run_waits y (in_contained (still_open past) y (y_open y k.1)) started))) in
        ⊎_elim (λ has. absurd (both_ways _ none has))
        (λ all. same_workers y (in_filter (is_on q c) (still_open past) y k.1).1 all)
        (active_kept y (y_open y k.1) parts.0 unstarted)

    ahead : (y : Queueing) → In y on → is_active s past y ≡ true → is_ahead x y ≡ true
    ahead y there active =
        let less = front_ahead (is_active s past) on x y (first_active s past q c).front
        (rising_filter (is_on q c) (still_open past) (open_rise past)) x_on there inactive active in
        let is = (in_filter (is_on q c) (still_open past) y there).1 in
        grind (arith, nat_tests, less, is)

    fewer : (xs : List Queueing) → (f : Queueing → Bool) → In x xs → f x ≡ false → count_by f xs < length xs
    fewer [] f there fails = absurd there
    fewer (z ∷ zs) f there fails = ⊎_elim
        (λ is. let not_z : f z ≡ false = subst (λ v. f v ≡ false) (sym is) fails in
        grind (arith, count_by-cons f z zs, not_z, at_most f zs))
        (λ later. grind (arith, count_by-cons f z zs, fewer zs f later fails)) there
      where
        at_most : (f : Queueing → Bool) (ys : List Queueing) → count_by f ys ≤ length ys
        at_most f [] = omega arith
        at_most f (y ∷ ys) = grind (arith, count_by-cons f y ys, at_most f ys)

    active_if : (y : Queueing) → In y on → is_below_max_active s past y ≡ true → is_active s past y ≡ true
    active_if y there is = by (is_active s past y) refl
      where
        by : (b : Bool) → is_active s past y ≡ b → is_active s past y ≡ true
        by true active = active
        by false none = absurd (both_ways _ (not_below s past y (y_open y there) none) is)

    at_width : width s past q ≤ count_by (is_active s past) on
    at_width =
        omega (
          arith,
          ways_counted s past q c,
          fewer on (is_below_max_active s past) x_on (not_below s past x here inactive),
          count_by-wider (is_below_max_active s past) (is_active s past) on
              (all_in _ on (λ y there is. active_if y there is)),
        )

    wide : width s past q ≡ max_active s past q
    unfolding width
    wide = ap (λ b. if b then 0 else max_active s past q) (none_shut x (in_contained (still_open past) x here))

    abbrev theirs : Queueing → Bool
    theirs y = has_run_of ws y.item.0 && is_ahead x y

    all_theirs : list_any lacks on ≡ false → count_by (is_active s past) on ≤ count_by theirs (still_open past)
    all_theirs none =
        omega (
          arith,
          count_by-filter (λ y. is_on q c y && is_active s past y) (is_on q c) (is_active s past) (still_open past)
              (λ y. refl),
          count_by-wider (λ y. is_on q c y && is_active s past y) theirs (still_open past)
              (all_in _ (still_open past) (λ y there both_are.
              let parts = and_parts (is_on q c y) (is_active s past y) both_are in
              let y_on = filter_in (is_on q c) (still_open past) y there parts.0 in
              let before = ahead y y_on parts.1 in
              let no_lack = false_from_ne_true (lacks y)
              (λ lacking. both_ways _ none (any_in lacks on y y_on lacking)) in
              let active = parts.1 in
              grind (arith, before, no_lack, active))),
        )

    places : list_any lacks on ≡ false → have_all_places (scene_of s past) ws x ≡ true
    places none =
        le-leb (max_active s past q) (sum_by (places_ahead (scene_of s past) x) ws)
        (omega (arith, wide, at_width, all_theirs none, of_kinds (is_ahead x) ws (still_open past)))

    inactive_kept : (have_all_workers s ws x.place || have_all_places (scene_of s past) ws x) ≡ true
    inactive_kept = by (list_any lacks on) refl
      where
        by : (b : Bool) → list_any lacks on ≡ b
            → (have_all_workers s ws x.place || have_all_places (scene_of s past) ws x) ≡ true
        by true some = let all = where_lacks some in grind (arith, all)
        by false none = let all = places none in grind (arith, all)

  -- ---- so the ticket is held up

  kept : (x : Queueing) → In x (still_open past) → is_kept (scene_of s past) ws x ≡ true
  kept x here = by (is_started past x.number) refl (is_active s past x) refl
    where
      by : (a : Bool) → is_started past x.number ≡ a → (b : Bool) → is_active s past x ≡ b
          → is_kept (scene_of s past) ws x ≡ true
      by true started b is =
          let has = run_waits x (in_contained (still_open past) x here) started in grind (arith, has)
      by false unstarted true active =
          ⊎_elim (λ has. grind (arith, has)) (λ all. grind (arith, all, unstarted))
          (active_kept x here active unstarted)
      by false unstarted false inactive =
          let all = inactive_kept x here inactive in grind (arith, all, unstarted, inactive)

  held : (t : Ticket) → is_unready past t.number t.call ≡ true → is_held_up (scene_of s past) ws t ≡ true
  held t unready =
      let k = is_awaited s past t.number t.call legal unready in
      any_in (is_held_up_by (scene_of s past) ws t) (still_open past) k.queueing k.here
      (and_from _ _ k.up (kept k.queueing k.here))

all_members : (ws : List RunWait) → members (λ n. true) ws ≡ ws
all_members ws = filter_all (is_in (λ n. true)) ws (all_in (λ w. true ≡ true) ws (λ w here. refl))

pub at_rest_waits_are_deadlock : AtRestWaitsAreDeadlock
at_rest_waits_are_deadlock first s past legal rest each none_shut w here is =
    subst (λ (vs : List RunWait). is_held_up (scene_of s past) vs w.ticket ≡ true)
    (sym (all_members (waits_of first past)))
    (held first s past legal each rest.workers none_shut w.ticket
    (rest.waits w here))

pub at_rest_none_runs : AtRestNoneRuns
at_rest_none_runs first s past legal rest each none_shut alive x here =
    false_from_ne_true _ (λ started. let wait = its_wait first s past legal each x here started in
    let dead = at_rest_waits_are_deadlock first s past legal rest each none_shut in
    absurd (cc (alive (λ n. true) dead wait.wait (in_contained (waits_of first past) wait.wait wait.there))))
