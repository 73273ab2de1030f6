-- The phases of a millisecond, as the calls that make them.
use Rattle.cmwq_sim.specs.Common.{◌≡◌, ◌==◌, ◌+◌, ℕ, true, false, cond, not, ◌||◌, List, [], ◌∷◌, ◌++◌, length, drop}
use Rattle.cmwq_sim.specs.Common.{map, filter, find, Option, Some, None, refl, sym, ap, ap₂, ◌∙◌, subst, arith}
use Rattle.cmwq_sim.specs.Common.{option_to_list, append-nil, append_assoc, length-append, list_any, map-append}
use Rattle.cmwq_sim.specs.Common.{eqb-true, eq-eqb, and_parts, Worker, Entry, entry_for, All_each, All_map, count_none}
use Rattle.cmwq_model.specs.declared.call.Call.TheVariants as call
use Rattle.cmwq_sim.specs.declared.scenario.LineKind.TheVariants as kind
use Rattle.cmwq_sim.specs.Plan.{Plan, Event, plan_queue, is_of_plan_queue}
use Rattle.cmwq_sim.specs.Lines.{Moment, Job, Sleeper, make_ready, is_due, is_job_held, job_of, starting_items}
use Rattle.cmwq_sim.specs.Lines.{tell_starts, start_these, start}
use Rattle.cmwq_sim.specs.Shows.{layout_for, plan_worker, is_job, is_sleeper, Shows, to_start}
use Rattle.cmwq_sim.specs.Takers.{IsTaker, NoTaker}
use Rattle.cmwq_sim.proofs.Steps.{alone, asleep_with, sleep_shown, then_calls, served_as, woken_as}
use Rattle.cmwq_sim.proofs.TakeShown.{started_with}
use Rattle.cmwq_sim.proofs.FinishShown.{is_kept, ended_with, finish_shown}
use Rattle.cmwq_sim.proofs.WakeShown.{awake_with, wake_shown}
use Rattle.cmwq_sim.proofs.TakersAre.{taker_starts, no_taker, starting_goes, starting_stops}
use Rattle.cmwq_sim.proofs.Lists.{any_counted, found_any, last_any, filter_all, or_right, drop-drop, filter-append}

-- a history doesn't show the lines
pub other_lines : (s : Plan) (past : List Entry) (m : Moment) (slot : ℕ → ℕ) (ls : List Event) → Shows s past m slot
    → Shows s past (record m { lines = ls }) slot
other_lines s past m slot ls h = assumption

-- ---- a run ends

ready_made : (s : Plan) (past : List Entry) (m : Moment) (slot : ℕ → ℕ) (js : List Job) (ls : List Event) (o : Option ℕ)
    → Shows s past
    (record m { ready = m.ready ++ option_to_list o; behind = filter (is_kept o) m.behind; cpu = js; lines = ls }) slot
    → Shows s past (make_ready (record m { cpu = js; lines = ls }) o) slot
ready_made s past m slot js ls None h =
    subst (λ xs. Shows s past (record m { ready = xs; cpu = js; lines = ls }) slot) (append-nil m.ready)
    (subst (λ xs. Shows s past (record m { ready = m.ready ++ []; behind = xs; cpu = js; lines = ls }) slot)
    (filter_all (is_kept None) m.behind (All_each _ m.behind (λ k. refl))) h)
ready_made s past m slot js ls (Some z) h = h

pub end_shown : (s : Plan) (past : List Entry) (m : Moment) (slot : ℕ → ℕ) (i : ℕ) (js : List Job) (ls : List Event)
    → Shows s past m slot → list_any (is_job i) m.cpu ≡ true → filter (λ k. not (is_job i k)) m.cpu ≡ js
    → Shows s (then_calls s past (slot i) call.Finish)
    (make_ready (record m { cpu = js; lines = ls }) (find (is_of_plan_queue s (plan_queue s i)) m.behind)) slot
end_shown s past m slot i js ls h on left =
    ready_made s (e ∷ past) m slot js ls o
    (subst (λ xs.
    Shows s (e ∷ past)
    (record m { ready = m.ready ++ option_to_list o; behind = filter (is_kept o) m.behind; cpu = xs; lines = ls })
    slot) left
    (other_lines s (e ∷ past) (ended_with m i o) slot ls (finish_shown s past m slot i o h on refl)))
  where
    o : Option ℕ
    o = find (is_of_plan_queue s (plan_queue s i)) m.behind

    e : Entry
    e = entry_for (layout_for s) past (Worker (plan_worker (slot i))) call.Finish

-- ---- (1) the first of the CPU's list sleeps or ends

pub serve_sleeps : (s : Plan) (t : ℕ) (past : List Entry) (m : Moment) (slot : ℕ → ℕ) (j : Job) (js : List Job)
    (pause : ℕ) (left : List ℕ) → Shows s past m slot → m.cpu ≡ j ∷ js
    → Shows s (then_calls s past (slot j.item) call.Sleep) (served_as s t m js j.item (pause ∷ left)) slot
serve_sleeps s t past m slot j js pause left h is =
    other_lines s (then_calls s past (slot j.item) call.Sleep) (asleep_with m j js (t + pause) left) slot
    (m.lines ++ record { at = t; kind = kind.Sleeps; items = j.item ∷ [] } ∷ [])
    (sleep_shown s past m slot j js (t + pause) left h is)

pub serve_ends : (s : Plan) (t : ℕ) (past : List Entry) (m : Moment) (slot : ℕ → ℕ) (j : Job) (js : List Job)
    → Shows s past m slot → m.cpu ≡ j ∷ js
    → Shows s (then_calls s past (slot j.item) call.Finish) (served_as s t m js j.item []) slot
serve_ends s t past m slot j js h is =
    end_shown s past m slot j.item js (m.lines ++ record { at = t; kind = kind.Ends; items = j.item ∷ [] } ∷ []) h
    (ap (list_any (is_job j.item)) is ∙ ap (λ b. b || list_any (is_job j.item) js) (eq-eqb j.item j.item refl))
    (ap (filter (λ k. not (is_job j.item k))) is
    ∙ ap (λ b. cond (not b) (j ∷ filter (λ k. not (is_job j.item k)) js) (filter (λ k. not (is_job j.item k)) js))
    (eq-eqb j.item j.item refl)
    ∙ filter_all (λ k. not (is_job j.item k)) js
    (All_map (λ k. is_job j.item k ≡ false) _ js (λ k out. ap not out) (alone m j js is (h.once j.item)).0))

-- ---- (2) a sleeper wakes, and burns or ends

pub due_item : (t i : ℕ) (x : Sleeper) → is_due t i x ≡ true → x.item ≡ i
due_item t i x h = eqb-true x.item i (and_parts (x.item == i) (x.until == t) h).0

pub asleep_there : (t i : ℕ) (m : Moment) (x : Sleeper) → find (is_due t i) m.sleeping ≡ Some x
    → list_any (is_sleeper i) m.sleeping ≡ true
asleep_there t i m x due =
    found_any (is_due t i) (is_sleeper i) (λ y k. (and_parts (y.item == i) (y.until == t) k).0) m.sleeping x due

module _ (s : Plan) (t i : ℕ) (past : List Entry) (m : Moment) (slot : ℕ → ℕ) (h : Shows s past m slot)
    (asleep : list_any (is_sleeper i) m.sleeping ≡ true) where
  pub wake_burns : (b : ℕ) (left : List ℕ)
      → Shows s (then_calls s past (slot i) call.Wake) (woken_as s t m i (b ∷ left)) slot
  wake_burns b left =
      other_lines s (then_calls s past (slot i) call.Wake) (awake_with m i b left) slot
      (m.lines ++ record { at = t; kind = kind.WakesBurns; items = i ∷ [] } ∷ [])
      (wake_shown s past m slot i b left h asleep)

  pub joined : list_any (is_job i) (m.cpu ++ record { item = i; burn = 0; left = [] } ∷ []) ≡ true
  joined = last_any (is_job i) m.cpu (record { item = i; burn = 0; left = [] })
      ∙ or_right (list_any (is_job i) m.cpu) (i == i) (eq-eqb i i refl)

  others : filter (λ k. not (is_job i k)) (m.cpu ++ record { item = i; burn = 0; left = [] } ∷ []) ≡ m.cpu
  others =
      let none = count_none (is_job i) m.cpu (omega (arith, any_counted (is_sleeper i) m.sleeping asleep, h.once i)) in
      filter-append (λ k. not (is_job i k)) m.cpu (record { item = i; burn = 0; left = [] } ∷ [])
      ∙ ap₂ (λ ys b. ys ++ cond (not b) (record { item = i; burn = 0; left = [] } ∷ []) [])
      (filter_all (λ k. not (is_job i k)) m.cpu
      (All_map (λ k. is_job i k ≡ false) _ m.cpu (λ k out. ap not out) none)) (eq-eqb i i refl)
      ∙ append-nil m.cpu

  pub wake_ends : Shows s (then_calls s (then_calls s past (slot i) call.Wake) (slot i) call.Finish)
      (woken_as s t m i []) slot
  wake_ends =
      end_shown s (then_calls s past (slot i) call.Wake) (awake_with m i 0 []) slot i m.cpu
      (m.lines ++ record { at = t; kind = kind.WakesEnds; items = i ∷ [] } ∷ [])
      (wake_shown s past m slot i 0 [] h asleep) joined others

-- ---- (3) starts, one take after the other

-- when these have started
abbrev pub taken : Plan → Moment → List ℕ → Moment
taken s m is = record m { ready = drop (length is) m.ready; cpu = m.cpu ++ map (job_of s) is }

-- what would start is the first of the ready ones, and nothing holds it
pub record MayStart (s : Plan) (m : Moment) (n : ℕ) : Type 0 where
  pub first : m.ready ≡ n ∷ drop 1 m.ready
  pub clear : list_any (is_job_held s) m.cpu ≡ false

pub may_start : (s : Plan) (m : Moment) (n : ℕ) → to_start s m ≡ Some n → MayStart s m n
may_start s m n h = record { first = grind arith; clear = grind arith }

pub takes_on : (s : Plan) (m : Moment) (is : List ℕ) (n : ℕ)
    → started_with s (taken s m is) n (drop 1 (taken s m is).ready) ≡ taken s m (is ++ n ∷ [])
takes_on s m is n = ap₂ (λ rs js. record m { ready = rs; cpu = js })
    (drop-drop 1 (length is) m.ready ∙ ap (λ k. drop k m.ready) (sym (length-append is (n ∷ []))))
    (append_assoc m.cpu (map (job_of s) is) (job_of s n ∷ [])
    ∙ ap (λ js. m.cpu ++ js) (sym (map-append (job_of s) is (n ∷ []))))

-- what has started, and what would start then, is what starts in all
pub starts_on : (s : Plan) (past : List Entry) (m : Moment) (slot : ℕ → ℕ) (is : List ℕ) (x n : ℕ)
    → Shows s past (taken s m is) slot → IsTaker (layout_for s) past x n
    → is ++ starting_items s (taken s m is).cpu (taken s m is).ready ≡ (is ++ n ∷ [])
    ++ starting_items s (taken s m (is ++ n ∷ [])).cpu (taken s m (is ++ n ∷ [])).ready
starts_on s past m slot is x n h t =
    let k = taker_starts s past (taken s m is) slot x n h t in
    let may = may_start s (taken s m is) n k.1 in
    ap (λ rs. is ++ starting_items s (taken s m is).cpu rs) may.first
    ∙ ap (λ ks. is ++ ks) (starting_goes s (taken s m is).cpu n (drop 1 (taken s m is).ready) may.clear)
    ∙ sym (append_assoc is (n ∷ [])
    (starting_items s ((taken s m is).cpu ++ job_of s n ∷ []) (drop 1 (taken s m is).ready)))
    ∙ ap (λ (m2 : Moment). (is ++ n ∷ []) ++ starting_items s m2.cpu m2.ready) (takes_on s m is n)

pub start_is : (s : Plan) (t : ℕ) (past : List Entry) (m : Moment) (slot : ℕ → ℕ) (is : List ℕ)
    → Shows s past (taken s m is) slot → NoTaker (layout_for s) past 8 → starting_items s m.cpu m.ready ≡ is
    ++ starting_items s (taken s m is).cpu (taken s m is).ready
    → start s t m ≡ tell_starts t is (taken s m is)
start_is s t past m slot is h nobody so =
    ap (start_these s t m)
    (so ∙ ap (λ ks. is ++ ks) (starting_stops s (taken s m is) (no_taker s past (taken s m is) slot h nobody))
    ∙ append-nil is)
