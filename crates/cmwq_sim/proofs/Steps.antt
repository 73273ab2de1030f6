-- What one more entry does to what a history shows.
use Rattle.cmwq_sim.specs.Common.{◌≡◌, ◌≢◌, ◌==◌, ◌≤◌, ◌+◌, ℕ, Bool, true, false, cond, not, ◌&&◌, List, [], ◌∷◌, ◌++◌}
use Rattle.cmwq_sim.specs.Common.{length, filter, count_by, Option, None, refl, sym, ap, ap₂, ◌∙◌, subst, arith}
use Rattle.cmwq_sim.specs.Common.{option_to_list, append-nil, length-append, option_map, option_and_then, if◌then◌else◌}
use Rattle.cmwq_sim.specs.Common.{AllByRecursion, list_any, runner_there, lt-ltb, eq-eqb, same_Some, PoolId, WorkerId}
use Rattle.cmwq_sim.specs.Common.{Worker, Reply, Entry, Queueing, Layout, item_of, is_at, number_started}
use Rattle.cmwq_sim.specs.Common.{number_finished, number_cancelled, replaces, starts, run, is_asleep, asleep_after}
use Rattle.cmwq_sim.specs.Common.{opens, opening, queued_at, place_wanted, queueings, still_open, is_live}
use Rattle.cmwq_sim.specs.Common.{is_newly_active, newly_active, worklist, is_retired, answer, IsLegal, entry_for}
use Rattle.cmwq_sim.specs.Common.{run_after, survives, is_ended, ending, waits, is_left, is_in, behind_width}
use Rattle.cmwq_sim.specs.Common.{is_below_max_active_at_once, keeps_widths, All_both, All_each, All_append, All_filter}
use Rattle.cmwq_sim.specs.Common.{count_by-cons, filter_same, none_found, count_none, stays_active, open_go_on}
use Rattle.cmwq_sim.specs.Common.{newly_of_open, newly_active_are, width_same, worklists_go_on, workers_run_on}
use Rattle.cmwq_sim.specs.Common.{by_itself, Call}
use Rattle.cmwq_model.specs.declared.call.Call.TheVariants as call
use Rattle.cmwq_model.specs.declared.reply.Reply.TheVariants as reply
use Rattle.cmwq_sim.specs.Plan.{Plan}
use Rattle.cmwq_sim.specs.Lines.{Moment, Job, after_burn, after_sleep, is_other_sleeper}
use Rattle.cmwq_sim.specs.Shows.{layout_for, pool, plan_worker, IsRunAt, is_job, is_sleeper, runs_in, times, Shows}
use Rattle.cmwq_sim.proofs.Lists.{none_kept, last_any, both_ways, filter_all, count_push}
use Rattle.cmwq_sim.proofs.Idle.{not_by}
use Rattle.cmwq_sim.proofs.TakeReads.{sleep_answered}

-- a call of the worker with this index, after a history
abbrev pub then_calls : Plan → List Entry → ℕ → Call → List Entry
then_calls s past x c = entry_for (layout_for s) past (Worker (plan_worker x)) c ∷ past

-- where an item on the CPU's list has burnt, with these after it, and where one has slept, with what is left of its
-- parts
abbrev pub served_as : Plan → ℕ → Moment → List Job → ℕ → List ℕ → Moment
served_as s t m js = after_burn s t (record m { cpu = js })

abbrev pub woken_as : Plan → ℕ → Moment → ℕ → List ℕ → Moment
woken_as s t m i = after_sleep s t (record m { sleeping = filter (is_other_sleeper i) m.sleeping }) i

-- ---- an entry that opens and ends nothing

pub record EndsNone (r : Reply) : Type 0 where
  pub finishes : number_finished r ≡ None
  pub cancels : number_cancelled r ≡ None
  pub replaces : replaces r ≡ false

pub record IsQuiet (r : Reply) : Type 0 where
  pub ends : EndsNone r
  pub opens : opens r ≡ false
  pub widths : keeps_widths r ≡ true
  pub stays : is_retired r ≡ false

pub spares : (past : List Entry) (e : Entry) (x : Queueing) → EndsNone e.reply → survives past e x ≡ true
spares past e x q = grind arith

pub all_survive : (past : List Entry) (e : Entry) (xs : List Queueing) → EndsNone e.reply
    → filter (survives past e) xs ≡ xs
all_survive past e xs q = filter_all (survives past e) xs (All_each _ xs (λ x. spares past e x q))

pub none_ends : (past : List Entry) (e : Entry) → EndsNone e.reply → ending past e ≡ None
none_ends past e q =
    none_found (is_ended past e) (still_open past) (All_each _ (still_open past) (λ x. ap not (spares past e x q)))

pub none_opens : (past : List Entry) (e : Entry) → IsQuiet e.reply → opening past e ≡ None
none_opens past e q =
    ap (λ b. if b then option_and_then (λ i. option_map (queued_at past i) (place_wanted past e.call i)) (item_of e)
    else None) q.opens

open_as_before : (s : Layout) (past : List Entry) (e : Entry) → IsLegal s (e ∷ past) → IsQuiet e.reply
    → still_open (e ∷ past) ≡ still_open past
open_as_before s past e legal q =
    open_go_on s past e legal ∙ ap₂ (λ xs o. xs ++ option_to_list o) (all_survive past e (still_open past) q.ends)
    (none_opens past e q) ∙ append-nil (still_open past)

none_newly : (s : Layout) (past : List Entry) (e : Entry) → IsLegal s (e ∷ past) → IsQuiet e.reply
    → newly_active s past e ≡ []
none_newly s past e legal q = newly_active_are s past e legal q.widths
    ∙ ap₂ (λ a b. filter (waits s past) (option_to_list (behind_width s past a))
    ++ filter (is_below_max_active_at_once s past e) (option_to_list b)) (none_ends past e q.ends)
    (none_opens past e q)

-- what is left of the worklist is what doesn't start
pub worklist_as_before : (s : Layout) (past : List Entry) (e : Entry) (p : PoolId) → IsLegal s (e ∷ past)
    → IsQuiet e.reply → worklist s (e ∷ past) p ≡ filter (λ x. not (starts x.number e)) (worklist s past p)
worklist_as_before s past e p legal q = worklists_go_on s past e p legal
    ∙ ap₂ (λ xs ys. xs ++ filter (is_in s p) ys)
    (filter_same (is_left past e) (λ x. not (starts x.number e)) (worklist s past p)
    (All_each _ (worklist s past p) (λ x. ap (λ b. b && not (starts x.number e)) (spares past e x q.ends))))
    (none_newly s past e legal q)
    ∙ append-nil (filter (λ x. not (starts x.number e)) (worklist s past p))

-- who was open is active where it was, unless it becomes so
pub active_as_before : (s : Layout) (past : List Entry) (e : Entry) (x : Queueing) → is_live (e ∷ past) x ≡ true
    → is_newly_active s past e x ≡ false → waits s (e ∷ past) x ≡ waits s past x
active_as_before s past e x live new = grind (arith, stays_active s past e x)

-- and the same wait
pub waiting_as_before : (s : Layout) (past : List Entry) (e : Entry) → IsLegal s (e ∷ past) → IsQuiet e.reply
    → filter (waits s (e ∷ past)) (still_open (e ∷ past)) ≡ filter (waits s past) (still_open past)
waiting_as_before s past e legal q =
    filter_same (waits s (e ∷ past)) (waits s past) (still_open (e ∷ past))
    (All_both (λ x. is_live (e ∷ past) x ≡ true) (λ x. is_newly_active s past e x ≡ false) _ (still_open (e ∷ past))
    (active_as_before s past e)
    (All_filter (λ x. is_live (e ∷ past) x ≡ true) (is_live (e ∷ past)) (queueings (e ∷ past))
    (All_each _ (queueings (e ∷ past)) (λ x k. k)))
    (none_kept (is_newly_active s past e) (still_open (e ∷ past))
    (sym (newly_of_open s past e) ∙ none_newly s past e legal q)))
    ∙ ap (filter (waits s past)) (open_as_before s past e legal q)

-- ---- sleep

pub same_runs : (s : Layout) (past : List Entry) (e : Entry) (w : WorkerId) → IsLegal s (e ∷ past)
    → ((o : Option ℕ) → run_after e.reply o ≡ o) → run (e ∷ past) w ≡ run past w
same_runs s past e w legal h = grind (arith, workers_run_on s past e w legal, h (run past w))

-- the worker of another item is another one
pub other_slot : (past : List Entry) (slot : ℕ → ℕ) (i k : ℕ) (a b : Bool) → IsRunAt past (slot i) i a
    → IsRunAt past (slot k) k b → (k == i) ≡ false → slot i ≢ slot k
other_slot past slot i k a b h g differs same =
    let one : k ≡ i = same_Some k i (sym g.runs ∙ ap (λ x. run past (plan_worker x)) (sym same) ∙ h.runs) in
    both_ways (k == i) differs (eq-eqb k i one)

-- a run of another worker goes on
pub goes_by : (s : Layout) (past : List Entry) (e : Entry) (x y i : ℕ) (b : Bool) → IsLegal s (e ∷ past)
    → e.who ≡ Worker (plan_worker x) → x ≢ y → IsRunAt past y i b → IsRunAt (e ∷ past) y i b
unfolding is_asleep
goes_by s past e x y i b legal who differs r =
    let by = not_by e pool x y who differs in
    record { runs = workers_run_on s past e (plan_worker y) legal ∙ rw by r.runs; sleeps = rw by r.sleeps }

-- an item stands once among those that run
pub alone : (m : Moment) (j : Job) (rest : List Job) → m.cpu ≡ j ∷ rest → times m j.item ≤ 1
    → (AllByRecursion (λ k. is_job j.item k ≡ false) rest)
    × (AllByRecursion (λ x. is_sleeper j.item x ≡ false) m.sleeping)
alone m j rest is h =
    let c : count_by (is_job j.item) m.cpu ≡ 1 + count_by (is_job j.item) rest =
    ap (count_by (is_job j.item)) is ∙ count_by-cons (is_job j.item) j rest
    ∙ ap (λ b. cond b 1 0 + count_by (is_job j.item) rest) (eq-eqb j.item j.item refl) in
    (count_none (is_job j.item) rest (omega arith), count_none (is_sleeper j.item) m.sleeping (omega arith))

abbrev pub asleep_with : Moment → Job → List Job → ℕ → List ℕ → Moment
asleep_with m j rest until left =
    record m { cpu = rest; sleeping = m.sleeping ++ record { item = j.item; until = until; left = left } ∷ [] }

pub sleep_shown : (s : Plan) (past : List Entry) (m : Moment) (slot : ℕ → ℕ) (j : Job) (rest : List Job) (until : ℕ)
    (left : List ℕ) → Shows s past m slot → m.cpu ≡ j ∷ rest
    → Shows s (then_calls s past (slot j.item) call.Sleep) (asleep_with m j rest until left) slot
unfolding IsLegal queueings is_asleep
sleep_shown s past m slot j rest until left h is = record {
  legal = legal;
  widths = ((λ q. width_same (layout_for s) past e q quiet.widths ∙ h.wide q), h.widths);
  wide = λ q. width_same (layout_for s) past e q quiet.widths ∙ h.wide q;
  kept = (quiet.stays, h.kept);
  queued = ap (λ o. queueings past ++ option_to_list o) (none_opens past e quiet) ∙ append-nil (queueings past)
      ∙ h.queued;
  ready = worklist_as_before (layout_for s) past e pool legal quiet
      ∙ filter_all (λ x. not (starts x.number e)) (worklist (layout_for s) past pool)
      (All_each _ (worklist (layout_for s) past pool) (λ x. ap (λ r. not (is_at (number_started r) x.number)) slept))
      ∙ h.ready;
  behind = waiting_as_before (layout_for s) past e legal quiet ∙ h.behind;
  cpu = All_both (λ k. IsRunAt past (slot k.item) k.item false) (λ k. is_job j.item k ≡ false) _ rest
      (λ k r differs. other k.item false r differs) jobs.1 apart.0;
  sleeping = All_append _ m.sleeping (record { item = j.item; until = until; left = left } ∷ [])
      (All_both (λ x. IsRunAt past (slot x.item) x.item true) (λ x. is_sleeper j.item x ≡ false) _ m.sleeping
      (λ x r differs. other x.item true r differs) h.sleeping apart.1) (
        record {
          runs = same_runs (layout_for s) past e (plan_worker (slot j.item)) legal after ∙ jobs.0.runs;
          sleeps =
              ap₂ (λ c r. if c then asleep_after r (is_asleep past (plan_worker (slot j.item)))
              else is_asleep past (plan_worker (slot j.item))) (by_itself e (plan_worker (slot j.item)) refl) slept;
        },
        tt,
      );
  no_others = λ w n runs. let k = h.no_others w n (sym (same_runs (layout_for s) past e w legal after) ∙ runs) in
      (k.0, moved n k.1);
  once = λ i. omega (
    arith,
    h.once i,
    ap (count_by (is_job i)) is ∙ count_by-cons (is_job i) j rest,
    count_push (is_sleeper i) m.sleeping (record { item = j.item; until = until; left = left }),
  );
  few = omega (
    arith,
    h.few,
    ap length is,
    length-append m.sleeping (record { item = j.item; until = until; left = left } ∷ []),
  );
}
  where
    e : Entry
    e = entry_for (layout_for s) past (Worker (plan_worker (slot j.item))) call.Sleep

    jobs : AllByRecursion (λ k. IsRunAt past (slot k.item) k.item false) (j ∷ rest)
    jobs = subst (AllByRecursion (λ k. IsRunAt past (slot k.item) k.item false)) is h.cpu

    slept : answer (layout_for s) past (Worker (plan_worker (slot j.item))) call.Sleep ≡ reply.Slept
    slept = sleep_answered s past (slot j.item) j.item jobs.0

    quiet : IsQuiet (answer (layout_for s) past (Worker (plan_worker (slot j.item))) call.Sleep)
    quiet = subst IsQuiet (sym slept)
        (record {
          ends = record { finishes = refl; cancels = refl; replaces = refl };
          opens = refl;
          widths = refl;
          stays = refl;
        })

    legal : IsLegal (layout_for s) (e ∷ past)
    legal = (
      ap (λ b. (b && true) && true)
          (lt-ltb (slot j.item) 8
          (runner_there (layout_for s) past (plan_worker (slot j.item)) j.item h.legal jobs.0.runs)),
      refl,
      h.legal,
    )

    after : (o : Option ℕ) → run_after (answer (layout_for s) past (Worker (plan_worker (slot j.item))) call.Sleep) o
        ≡ o
    after o = ap (λ r. run_after r o) slept

    apart : (AllByRecursion (λ k. is_job j.item k ≡ false) rest)
        × (AllByRecursion (λ x. is_sleeper j.item x ≡ false) m.sleeping)
    apart = alone m j rest is (h.once j.item)

    other : (i : ℕ) (b : Bool) → IsRunAt past (slot i) i b → (i == j.item) ≡ false → IsRunAt (e ∷ past) (slot i) i b
    other i b r differs =
        goes_by (layout_for s) past e (slot j.item) (slot i) i b legal refl
        (other_slot past slot j.item i false b jobs.0 r differs) r

    moved : (n : ℕ) → runs_in m n ≡ true → runs_in (asleep_with m j rest until left) n ≡ true
    moved n k =
        let a = ap (list_any (is_job n)) is in
        let b = last_any (is_sleeper n) m.sleeping (record { item = j.item; until = until; left = left }) in
        grind arith
