-- A take that starts carries the relation.
use Rattle.cmwq_sim.specs.Common.{◌≡◌, ◌==◌, ◌<◌, ◌+◌, ℕ, Bool, true, false, cond, not, ◌&&◌, List, [], ◌∷◌, ◌++◌}
use Rattle.cmwq_sim.specs.Common.{length, map, filter, count_by, Option, Some, None, refl, sym, ap, ap₂, ◌∙◌, subst}
use Rattle.cmwq_sim.specs.Common.{arith, option_to_list, append-nil, length-append, if◌then◌else◌, list_any, lt-ltb}
use Rattle.cmwq_sim.specs.Common.{eq-eqb, ne_eqb, same_Some, nat_tests, WorkerId, Worker, Reply, Entry, Queueing, is_at}
use Rattle.cmwq_sim.specs.Common.{is_by, number_started, run, is_asleep, asleep_after, queueings, is_idle, answer}
use Rattle.cmwq_sim.specs.Common.{IsLegal, entry_for, is_promised, run_after, All_map, All_both, All_append}
use Rattle.cmwq_sim.specs.Common.{count_by-cons, count_none, width_same, workers_run_on, run_begun, same_worker-true}
use Rattle.cmwq_sim.specs.Common.{by_itself}
use Rattle.cmwq_model.specs.declared.call.Call.TheVariants as call
use Rattle.cmwq_model.specs.declared.reply.Reply.TheVariants as reply
use Rattle.cmwq_sim.specs.Plan.{Plan, ms_of}
use Rattle.cmwq_sim.specs.Lines.{Moment, is_job_held, job_of, job_with}
use Rattle.cmwq_sim.specs.Shows.{layout_for, pool, plan_worker, queueing_for, IsRunAt, is_job, is_sleeper, runs_in}
use Rattle.cmwq_sim.specs.Shows.{Shows, to_start, next_of}
use Rattle.cmwq_sim.proofs.Lists.{last_any, all_mapped_pass, none-some, count_push}
use Rattle.cmwq_sim.proofs.Idle.{idle_parts}
use Rattle.cmwq_sim.proofs.TakeReads.{take_answered, runs_counted}
use Rattle.cmwq_sim.proofs.Steps.{IsQuiet, none_opens, worklist_as_before, waiting_as_before, goes_by, then_calls}

-- what a reply that starts an item says besides
pub record StartsOne (r : Reply) (n : ℕ) : Type 0 where
  pub quiet : IsQuiet r
  pub awake : (b : Bool) → asleep_after r b ≡ false
  pub runs : (o : Option ℕ) → run_after r o ≡ Some n
  pub promised : is_promised r ≡ true

pub starts_one : (r : Reply) (n : ℕ) → number_started r ≡ Some n → StartsOne r n
starts_one (reply.Started m) n h =
    record {
      quiet =
          record {
            ends = record { finishes = refl; cancels = refl; replaces = refl };
            opens = refl;
            widths = refl;
            stays =
                refl;
          };
      awake = λ b. refl;
      runs = λ o. h;
      promised = refl;
    }
starts_one (reply.StartedEnlist m x) n h =
    record {
      quiet =
          record {
            ends = record { finishes = refl; cancels = refl; replaces = refl };
            opens = refl;
            widths = refl;
            stays =
                refl;
          };
      awake = λ b. refl;
      runs = λ o. h;
      promised = refl;
    }
starts_one r n h = cc

pub job_item : (i : ℕ) (ms : List ℕ) → (job_with i ms).item ≡ i
job_item i [] = refl
job_item i (b ∷ ms) = refl

abbrev pub slot_with : (ℕ → ℕ) → ℕ → ℕ → ℕ → ℕ
slot_with slot i x k = if k == i then x else slot k

abbrev pub started_with : Plan → Moment → ℕ → List ℕ → Moment
started_with s m i rest = record m { ready = rest; cpu = m.cpu ++ job_of s i ∷ [] }

pub take_shown : (s : Plan) (past : List Entry) (m : Moment) (slot : ℕ → ℕ) (x i : ℕ) (rest : List ℕ)
    → Shows s past m slot → x < 8 → is_idle past pool x ≡ true → m.ready ≡ i ∷ rest
    → list_any (is_job_held s) m.cpu ≡ false
    → Shows s (then_calls s past x call.Take) (started_with s m i rest) (slot_with slot i x)
unfolding IsLegal queueings is_asleep
take_shown s past m slot x i rest h less free is clear = record {
  legal = legal;
  widths = ((λ q. width_same (layout_for s) past e q says.quiet.widths ∙ h.wide q), h.widths);
  wide = λ q. width_same (layout_for s) past e q says.quiet.widths ∙ h.wide q;
  kept = (says.quiet.stays, h.kept);
  queued = ap (λ o. queueings past ++ option_to_list o) (none_opens past e says.quiet) ∙ append-nil (queueings past)
      ∙ h.queued;
  ready = worklist_as_before (layout_for s) past e pool legal says.quiet
      ∙ ap₂ (λ o ws. filter (λ (y : Queueing). not (is_at o y.number)) ws) started
      (h.ready ∙ ap (map (queueing_for s)) is)
      ∙ ap (λ b.
      cond (not b) (queueing_for s i ∷ filter (λ (y : Queueing). not (i == y.number)) (map (queueing_for s) rest))
      (filter (λ (y : Queueing). not (i == y.number)) (map (queueing_for s) rest))) (eq-eqb i i refl)
      ∙ all_mapped_pass (queueing_for s) (λ (y : Queueing). not (i == y.number)) rest
      (All_map (λ k. (k == i) ≡ false) (λ k. not (i == k) ≡ true) rest (λ k differs. grind (arith, nat_tests))
      (count_none (λ k. k == i) rest (omega (arith, counts, h.once i))));
  behind = waiting_as_before (layout_for s) past e legal says.quiet ∙ h.behind;
  cpu = All_append _ m.cpu (job_of s i ∷ [])
      (All_both (λ k. IsRunAt past (slot k.item) k.item false) (λ k. is_job i k ≡ false) _ m.cpu
      (λ k r differs. other k.item false r differs) h.cpu
      (count_none (is_job i) m.cpu (omega (arith, counts, h.once i))))
      (subst (λ k. IsRunAt (e ∷ past) (slot_with slot i x k) k false) (sym (job_item i (ms_of s i))) own, tt);
  sleeping =
      All_both (λ k. IsRunAt past (slot k.item) k.item true) (λ k. is_sleeper i k ≡ false) _ m.sleeping
      (λ k r differs. other k.item true r differs) h.sleeping
      (count_none (is_sleeper i) m.sleeping (omega (arith, counts, h.once i)));
  no_others = λ w n runs. at w n (is_by (Worker w) e) refl (sym (workers_run_on (layout_for s) past e w legal) ∙ runs);
  once = λ k.
      let a = count_push (is_job k) m.cpu (job_of s i)
      ∙ ap (λ j. count_by (is_job k) m.cpu + cond (j == k) 1 0) (job_item i (ms_of s i)) in
      omega (arith, h.once k, ap (count_by (λ j. j == k)) is ∙ count_by-cons (λ j. j == k) i rest);
  few = omega (arith, h.few, ap length is, length-append m.cpu (job_of s i ∷ []));
}
  where
    e : Entry
    e = entry_for (layout_for s) past (Worker (plan_worker x)) call.Take

    started : number_started (answer (layout_for s) past (Worker (plan_worker x)) call.Take) ≡ Some i
    started = take_answered s past m slot x h ∙ ap (λ b. if b then to_start s m else None) free
        ∙ ap (λ b. if b then None else next_of m.ready) clear ∙ ap next_of is

    says : StartsOne (answer (layout_for s) past (Worker (plan_worker x)) call.Take) i
    says = starts_one (answer (layout_for s) past (Worker (plan_worker x)) call.Take) i started

    legal : IsLegal (layout_for s) (e ∷ past)
    legal = (ap (λ b. (b && true) && true) (lt-ltb x 8 less), refl, h.legal)

    counts : count_by (λ j. j == i) m.ready ≡ 1 + count_by (λ j. j == i) rest
    counts = ap (count_by (λ j. j == i)) is ∙ count_by-cons (λ j. j == i) i rest
        ∙ ap (λ b. cond b 1 0 + count_by (λ j. j == i) rest) (eq-eqb i i refl)

    idle_run : run past (plan_worker x) ≡ None
    idle_run = (idle_parts past pool x free).1

    other : (k : ℕ) (b : Bool) → IsRunAt past (slot k) k b → (k == i) ≡ false
        → IsRunAt (e ∷ past) (slot_with slot i x k) k b
    other k b r differs =
        rw differs
        (goes_by (layout_for s) past e x (slot k) k b legal refl
        (λ same. none-some _ (sym idle_run ∙ ap (λ y. run past (plan_worker y)) same ∙ r.runs)) r)

    own : IsRunAt (e ∷ past) (slot_with slot i x i) i false
    own = rw (eq-eqb i i refl) (record {
      runs = run_begun (layout_for s) past e (plan_worker x) i legal (by_itself e (plan_worker x) refl) started;
      sleeps = rw (by_itself e (plan_worker x) refl) (says.awake (is_asleep past (plan_worker x)));
    })

    at : (w : WorkerId) (n : ℕ) (b : Bool) → is_by (Worker w) e ≡ b
        → (if is_by (Worker w) e then run_after e.reply (run past w) else run past w) ≡ Some n
        → (w ≡ plan_worker (slot_with slot i x n)) × (runs_in (started_with s m i rest) n ≡ true)
    at w n true by runs =
        let same : i ≡ n = same_Some i n (sym (says.runs (run past w)) ∙ rw by at runs) in
        let a = last_any (is_job n) m.cpu (job_of s i) in
        let b = job_item i (ms_of s i) in
        (rw (eq-eqb n i (sym same)) (sym (same_worker-true (plan_worker x) w by)), grind (arith, nat_tests))
    at w n false by runs =
        let k = h.no_others w n (rw by at runs) in
        let differs : (n == i) ≡ false = ne_eqb n i (λ same.
        let c = runs_counted m i (subst (λ z. runs_in m z ≡ true) same k.1) in
        let p = counts in
        absurd (omega (arith, h.once i))) in
        let a = last_any (is_job n) m.cpu (job_of s i) in
        (rw differs k.0, grind (arith, k.1))
