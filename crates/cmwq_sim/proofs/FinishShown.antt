-- The end of a run carries the relation.
use Rattle.cmwq_sim.specs.Common.{◌≡◌, ◌==◌, ◌≤◌, ◌+◌, ℕ, Bool, true, false, cond, not, ◌&&◌, ◌||◌, List, [], ◌∷◌, ◌++◌}
use Rattle.cmwq_sim.specs.Common.{length, map, filter, find, count_by, Option, Some, None, refl, sym, ap, ap₂, ◌∙◌}
use Rattle.cmwq_sim.specs.Common.{subst, arith, inl, inr, ⊎_elim, option_to_list, append-nil, length-append, option_map}
use Rattle.cmwq_sim.specs.Common.{option_and_then, if◌then◌else◌, AllByRecursion, list_any, map-append, lt-ltb, ne_eqb}
use Rattle.cmwq_sim.specs.Common.{nat_tests, get_or-map, WorkerId, Worker, Entry, Queueing, QueueShape, item_of, is_by}
use Rattle.cmwq_sim.specs.Common.{is_at, number_started, queueings, still_open, is_live, opens, queued_at, place_wanted}
use Rattle.cmwq_sim.specs.Common.{is_active, is_newly_active, newly_active, worklist, answer, IsLegal, entry_for, run}
use Rattle.cmwq_sim.specs.Common.{is_retired, survives, waits, is_left, is_in, keeps_widths, All_each, All_map}
use Rattle.cmwq_sim.specs.Common.{All_filter, All_both, count_by-cons, filter_same, filter_twice, count_none}
use Rattle.cmwq_sim.specs.Common.{stays_active, open_go_on, newly_of_open, width_same, worklists_go_on, In, of_in}
use Rattle.cmwq_sim.specs.Common.{all_in, in_filter, filter_in, in_option, runner_there, workers_run_on, by_itself}
use Rattle.cmwq_sim.specs.Common.{run_after}
use mathlib.Core.Bool.{beq}
use Rattle.cmwq_model.specs.declared.call.Call.TheVariants as call
use Rattle.cmwq_model.specs.declared.reply.Reply.TheVariants as reply
use Rattle.cmwq_sim.specs.Plan.{Plan, plan_queue, is_of_plan_queue, no_sim_queue}
use Rattle.cmwq_sim.specs.Lines.{Moment, Job, is_other_item}
use Rattle.cmwq_sim.specs.Shows.{layout_for, queue_shape, pool, plan_worker, queueing_for, IsRunAt, is_job, is_sleeper}
use Rattle.cmwq_sim.specs.Shows.{runs_in, Shows}
use Rattle.cmwq_sim.proofs.Lists.{any_counted, found_there, fewer_kept, one_fewer, filter_mapped, all_mapped_pass}
use Rattle.cmwq_sim.proofs.Lists.{taken_out, others_there, both_ways, not-true, none-some, filter_shorter, count_append}
use Rattle.cmwq_sim.proofs.TakeReads.{finish_answered, run_of}
use Rattle.cmwq_sim.proofs.Steps.{other_slot, goes_by, then_calls}
use Rattle.cmwq_sim.proofs.Finish.{finish_makes_ready}
use Rattle.cmwq_theory_steps.proofs.Promoted.{turn_filters}

-- what stays after
abbrev pub is_kept : Option ℕ → ℕ → Bool
is_kept None k = true
is_kept (Some z) k = is_other_item z k

in_map : (s : Plan) (k : ℕ) (xs : List ℕ) → In k xs → In (queueing_for s k) (map (queueing_for s) xs)
in_map s k [] h = absurd h
in_map s k (x ∷ xs) h = ⊎_elim (λ e. inl (ap (queueing_for s) e)) (λ l. inr (in_map s k xs l)) h

-- every queue's pool is that of normal priority
pub in_pool : (s : Plan) (k : ℕ) → is_in (layout_for s) pool (queueing_for s k) ≡ true
in_pool s k =
    ap (λ b. beq b false)
    (ap (λ (x : QueueShape). x.high) (get_or-map queue_shape s.queues (plan_queue s k) no_sim_queue))

module _ (s : Plan) (past : List Entry) (m : Moment) (slot : ℕ → ℕ) (e : Entry) (i : ℕ) (h : Shows s past m slot)
    (legal : IsLegal (layout_for s) (e ∷ past)) (is : e.reply ≡ reply.Finished i)
    (on : list_any (is_job i) m.cpu ≡ true)
    (o : Option ℕ) (makes : newly_active (layout_for s) past e ≡ option_to_list (option_map (queueing_for s) o)) where
  survivors : (k : ℕ) → (k == i) ≡ false → survives past e (queueing_for s k) ≡ true
  survivors k differs = grind (arith, nat_tests)

  ready_others : AllByRecursion (λ k. (k == i) ≡ false) m.ready
  ready_others = count_none (λ k. k == i) m.ready (omega (arith, any_counted (is_job i) m.cpu on, h.once i))

  behind_others : AllByRecursion (λ k. (k == i) ≡ false) m.behind
  behind_others = count_none (λ k. k == i) m.behind (omega (arith, any_counted (is_job i) m.cpu on, h.once i))

  open_after : still_open (e ∷ past) ≡ filter (survives past e) (still_open past)
  open_after = open_go_on (layout_for s) past e legal
      ∙ ap (λ r. filter (survives past e) (still_open past)
      ++ option_to_list
      (if opens r then option_and_then (λ j. option_map (queued_at past j) (place_wanted past e.call j)) (item_of e)
      else None)) is ∙ append-nil (filter (survives past e) (still_open past))

  -- ---- the worklist

  left : (k : ℕ) → (k == i) ≡ false → is_left past e (queueing_for s k) ≡ true
  left k differs = ap₂ (λ b r. b && not (is_at (number_started r) k)) (survivors k differs) is

  all_left : filter (is_left past e) (map (queueing_for s) m.ready) ≡ map (queueing_for s) m.ready
  all_left =
      all_mapped_pass (queueing_for s) (is_left past e) m.ready
      (All_map (λ k. (k == i) ≡ false) _ m.ready left ready_others)

  all_in_pool : (p : Option ℕ) → filter (is_in (layout_for s) pool) (option_to_list (option_map (queueing_for s) p))
      ≡ map (queueing_for s) (option_to_list p)
  all_in_pool None = refl
  all_in_pool (Some z) = ap (λ b. cond b (queueing_for s z ∷ []) []) (in_pool s z)

  pub ready_after : worklist (layout_for s) (e ∷ past) pool ≡ map (queueing_for s) (m.ready ++ option_to_list o)
  ready_after = worklists_go_on (layout_for s) past e pool legal
      ∙ ap₂ (λ xs ys. filter (is_left past e) xs ++ filter (is_in (layout_for s) pool) ys) h.ready makes
      ∙ ap₂ (λ xs ys. xs ++ ys) all_left (all_in_pool o)
      ∙ sym (map-append (queueing_for s) m.ready (option_to_list o))

  -- ---- those after

  listed : (k : ℕ) → In (queueing_for s k) (still_open (e ∷ past))
      → is_newly_active (layout_for s) past e (queueing_for s k) ≡ true
      → option_map (queueing_for s) o ≡ Some (queueing_for s k)
  listed k there new =
      in_option (option_map (queueing_for s) o) (queueing_for s k)
      (subst (In (queueing_for s k)) (sym (newly_of_open (layout_for s) past e) ∙ makes)
      (filter_in (is_newly_active (layout_for s) past e) (still_open (e ∷ past)) (queueing_for s k) there new))

  becomes : (z : ℕ) → o ≡ Some z → is_newly_active (layout_for s) past e (queueing_for s z) ≡ true
  becomes z some =
      (in_filter (is_newly_active (layout_for s) past e) (still_open (e ∷ past)) (queueing_for s z)
      (subst (In (queueing_for s z)) (sym (ap (λ p. option_to_list (option_map (queueing_for s) p)) some) ∙ sym makes
      ∙ newly_of_open (layout_for s) past e) (inl refl))).1

  newly_passes : (k : ℕ) → In (queueing_for s k) (still_open (e ∷ past))
      → not (is_newly_active (layout_for s) past e (queueing_for s k)) ≡ is_kept o k
  newly_passes k there = grind (arith, nat_tests, listed k there, becomes)

  behind_open : (k : ℕ) → In k m.behind → In (queueing_for s k) (still_open (e ∷ past))
  behind_open k there =
      let waiting =
      in_filter (waits (layout_for s) past) (still_open past) (queueing_for s k)
      (subst (In (queueing_for s k)) (sym h.behind) (in_map s k m.behind there)) in
      subst (In (queueing_for s k)) (sym open_after)
      (filter_in (survives past e) (still_open past) (queueing_for s k) waiting.0
      (survivors k (of_in (λ j. (j == i) ≡ false) m.behind k behind_others there)))

  same : (x : Queueing) → is_live (e ∷ past) x ≡ true → not (is_active (layout_for s) (e ∷ past) x)
      ≡ (waits (layout_for s) past x && not (is_newly_active (layout_for s) past e x))
  same x live = grind (arith, stays_active (layout_for s) past e x)

  pub behind_after : filter (waits (layout_for s) (e ∷ past)) (still_open (e ∷ past))
      ≡ map (queueing_for s) (filter (is_kept o) m.behind)
  behind_after =
      filter_same _ _ (still_open (e ∷ past))
      (All_filter (λ x. not (is_active (layout_for s) (e ∷ past) x)
      ≡ (waits (layout_for s) past x && not (is_newly_active (layout_for s) past e x))) (is_live (e ∷ past))
      (queueings (e ∷ past)) (All_each _ (queueings (e ∷ past)) same))
      ∙ sym (filter_twice (λ x. not (is_newly_active (layout_for s) past e x)) (waits (layout_for s) past)
      (still_open (e ∷ past)))
      ∙ ap (λ xs. filter (λ x. not (is_newly_active (layout_for s) past e x)) (filter (waits (layout_for s) past) xs))
      open_after
      ∙ ap (filter (λ x. not (is_newly_active (layout_for s) past e x)))
      (turn_filters (waits (layout_for s) past) (survives past e) (still_open past)
      ∙ ap (filter (survives past e)) h.behind
      ∙ all_mapped_pass (queueing_for s) (survives past e) m.behind
      (All_map (λ k. (k == i) ≡ false) _ m.behind survivors behind_others))
      ∙ filter_mapped (queueing_for s) (λ x. not (is_newly_active (layout_for s) past e x)) (is_kept o) m.behind
      (all_in _ m.behind (λ k there. newly_passes k (behind_open k there)))

-- ---- the lists

moved_counts : (k : ℕ) (p : ℕ → Bool) (o : Option ℕ) (xs : List ℕ) → find p xs ≡ o
    → count_by (λ j. j == k) (filter (is_kept o) xs) + count_by (λ j. j == k) (option_to_list o) ≤ count_by
    (λ j. j == k) xs
moved_counts k p None xs h = omega (arith, fewer_kept (λ j. j == k) (is_kept None) xs)
moved_counts k p (Some z) xs h =
    let a = taken_out (λ j. j) k z xs in
    let b = any_counted (λ j. j == z) xs (found_there p xs z h) in
    let c = count_by-cons (λ j. j == k) z [] in
    grind arith

moved_length : (p : ℕ → Bool) (o : Option ℕ) (xs : List ℕ) → find p xs ≡ o
    → length (filter (is_kept o) xs) + length (option_to_list o) ≤ length xs
moved_length p None xs h = omega (arith, filter_shorter (is_kept None) xs)
moved_length p (Some z) xs h = one_fewer (λ j. j == z) xs (found_there p xs z h)

abbrev pub ended_with : Moment → ℕ → Option ℕ → Moment
ended_with m i o =
    record m {
      ready = m.ready ++ option_to_list o;
      behind = filter (is_kept o) m.behind;
      cpu =
          filter (λ k. not (is_job i k)) m.cpu;
    }

pub finish_shown : (s : Plan) (past : List Entry) (m : Moment) (slot : ℕ → ℕ) (i : ℕ) (o : Option ℕ)
    → Shows s past m slot → list_any (is_job i) m.cpu ≡ true → find (is_of_plan_queue s (plan_queue s i)) m.behind ≡ o
    → Shows s (then_calls s past (slot i) call.Finish) (ended_with m i o) slot
unfolding IsLegal queueings
finish_shown s past m slot i o h on first = record {
  legal = legal;
  widths = ((λ q. width_same (layout_for s) past e q (ap keeps_widths is) ∙ h.wide q), h.widths);
  wide = λ q. width_same (layout_for s) past e q (ap keeps_widths is) ∙ h.wide q;
  kept = (ap is_retired is, h.kept);
  queued = ap
      (λ r. queueings past
      ++ option_to_list
      (if opens r then option_and_then (λ j. option_map (queued_at past j) (place_wanted past call.Finish j))
      (item_of e) else None)) is ∙ append-nil (queueings past) ∙ h.queued;
  ready = ready_after s past m slot e i h legal is on o makes;
  behind = behind_after s past m slot e i h legal is on o makes;
  cpu = All_filter (λ k. IsRunAt (e ∷ past) (slot k.item) k.item false) (λ k. not (is_job i k)) m.cpu
      (All_map (λ k. IsRunAt past (slot k.item) k.item false) _ m.cpu
      (λ k r kept. other k.item false r (not-true (is_job i k) kept)) h.cpu);
  sleeping =
      All_both (λ k. IsRunAt past (slot k.item) k.item true) (λ k. is_sleeper i k ≡ false) _ m.sleeping
      (λ k r differs. other k.item true r differs) h.sleeping
      (count_none (is_sleeper i) m.sleeping (omega (arith, any_counted (is_job i) m.cpu on, h.once i)));
  no_others = λ w n runs. at w n (is_by (Worker w) e) refl (sym (workers_run_on (layout_for s) past e w legal) ∙ runs);
  once = λ k. omega (
    arith,
    h.once k,
    count_append (λ j. j == k) m.ready (option_to_list o),
    moved_counts k (is_of_plan_queue s (plan_queue s i)) o m.behind first,
    fewer_kept (is_job k) (λ j. not (is_job i j)) m.cpu,
  );
  few = omega (
    arith,
    h.few,
    length-append m.ready (option_to_list o),
    moved_length (is_of_plan_queue s (plan_queue s i)) o m.behind first,
    filter_shorter (λ j. not (is_job i j)) m.cpu,
  );
}
  where
    e : Entry
    e = entry_for (layout_for s) past (Worker (plan_worker (slot i))) call.Finish

    run_at : IsRunAt past (slot i) i false
    run_at = run_of (λ (j : Job). j.item) past slot false i m.cpu h.cpu on

    is : answer (layout_for s) past (Worker (plan_worker (slot i))) call.Finish ≡ reply.Finished i
    is = finish_answered s past (slot i) i run_at

    legal : IsLegal (layout_for s) (e ∷ past)
    legal = (
      ap (λ b. (b && true) && true)
          (lt-ltb (slot i) 8 (runner_there (layout_for s) past (plan_worker (slot i)) i h.legal run_at.runs)),
      refl,
      h.legal,
    )

    makes : newly_active (layout_for s) past e ≡ option_to_list (option_map (queueing_for s) o)
    makes = finish_makes_ready s past m slot e (slot i) i h h.widths h.wide legal is run_at
        ∙ ap (λ p. option_to_list (option_map (queueing_for s) p)) first

    other : (k : ℕ) (b : Bool) → IsRunAt past (slot k) k b → (k == i) ≡ false → IsRunAt (e ∷ past) (slot k) k b
    other k b r differs =
        goes_by (layout_for s) past e (slot i) (slot k) k b legal refl
        (other_slot past slot i k false b run_at r differs) r

    at : (w : WorkerId) (n : ℕ) (b : Bool) → is_by (Worker w) e ≡ b
        → (if is_by (Worker w) e then run_after e.reply (run past w) else run past w) ≡ Some n
        → (w ≡ plan_worker (slot n)) × (runs_in (ended_with m i o) n ≡ true)
    at w n true by runs = absurd (none-some n (sym (ap (λ r. run_after r (run past w)) is) ∙ rw by at runs))
    at w n false by runs =
        let k = h.no_others w n (rw by at runs) in
        let differs : (n == i) ≡ false =
        ne_eqb n i
        (λ same. both_ways (is_by (Worker w) e)
        by (by_itself e w (ap Worker (sym (k.0 ∙ ap (λ j. plan_worker (slot j)) same))))) in (
          k.0,
          ap (λ b. b || list_any (is_sleeper n) m.sleeping) (others_there (λ (j : Job). j.item) n i m.cpu differs)
              ∙ k.1,
        )
