-- A wake carries the relation.
use Rattle.cmwq_sim.specs.Common.{◌≡◌, ◌==◌, ◌≤◌, ℕ, Bool, true, false, not, ◌&&◌, List, [], ◌∷◌, ◌++◌, filter}
use Rattle.cmwq_sim.specs.Common.{count_by, Option, refl, sym, ap, ap₂, ◌∙◌, subst, arith, option_to_list, append-nil}
use Rattle.cmwq_sim.specs.Common.{length-append, if◌then◌else◌, list_any, runner_there, lt-ltb, nat_tests, Worker}
use Rattle.cmwq_sim.specs.Common.{Entry, is_at, number_started, starts, is_asleep, asleep_after, queueings, worklist}
use Rattle.cmwq_sim.specs.Common.{answer, IsLegal, entry_for, run_after, All_map, All_both, All_each, All_append}
use Rattle.cmwq_sim.specs.Common.{All_filter, count_none, width_same, by_itself}
use Rattle.cmwq_model.specs.declared.call.Call.TheVariants as call
use Rattle.cmwq_model.specs.declared.reply.Reply.TheVariants as reply
use Rattle.cmwq_sim.specs.Plan.{Plan}
use Rattle.cmwq_sim.specs.Lines.{Moment, Sleeper}
use Rattle.cmwq_sim.specs.Shows.{layout_for, pool, plan_worker, IsRunAt, is_job, is_sleeper, runs_in, Shows}
use Rattle.cmwq_sim.proofs.TakeReads.{wake_answered, run_of}
use Rattle.cmwq_sim.proofs.Steps.{IsQuiet, none_opens, worklist_as_before, waiting_as_before, same_runs, other_slot}
use Rattle.cmwq_sim.proofs.Steps.{goes_by, then_calls}
use Rattle.cmwq_sim.proofs.Lists.{any_counted, last_any, one_fewer, taken_out, others_there, not-true, filter_all}
use Rattle.cmwq_sim.proofs.Lists.{count_push}

abbrev pub awake_with : Moment → ℕ → ℕ → List ℕ → Moment
awake_with m i burn left =
    record m {
      cpu = m.cpu ++ record { item = i; burn = burn; left = left } ∷ [];
      sleeping =
          filter (λ k. not (is_sleeper i k)) m.sleeping;
    }

pub wake_shown : (s : Plan) (past : List Entry) (m : Moment) (slot : ℕ → ℕ) (i burn : ℕ) (left : List ℕ)
    → Shows s past m slot → list_any (is_sleeper i) m.sleeping ≡ true
    → Shows s (then_calls s past (slot i) call.Wake) (awake_with m i burn left) slot
unfolding IsLegal queueings is_asleep
wake_shown s past m slot i burn left h on = record {
  legal = legal;
  widths = ((λ q. width_same (layout_for s) past e q quiet.widths ∙ h.wide q), h.widths);
  wide = λ q. width_same (layout_for s) past e q quiet.widths ∙ h.wide q;
  kept = (quiet.stays, h.kept);
  queued = ap (λ o. queueings past ++ option_to_list o) (none_opens past e quiet) ∙ append-nil (queueings past)
      ∙ h.queued;
  ready = worklist_as_before (layout_for s) past e pool legal quiet
      ∙ filter_all (λ x. not (starts x.number e)) (worklist (layout_for s) past pool)
      (All_each _ (worklist (layout_for s) past pool) (λ x. ap (λ r. not (is_at (number_started r) x.number)) woke))
      ∙ h.ready;
  behind = waiting_as_before (layout_for s) past e legal quiet ∙ h.behind;
  cpu = All_append _ m.cpu (record { item = i; burn = burn; left = left } ∷ [])
      (All_both (λ k. IsRunAt past (slot k.item) k.item false) (λ k. is_job i k ≡ false) _ m.cpu
      (λ k r differs. other k.item false r differs) h.cpu
      (count_none (is_job i) m.cpu (omega (arith, some, h.once i)))) (
        record {
          runs = same_runs (layout_for s) past e (plan_worker (slot i)) legal after ∙ run_at.runs;
          sleeps =
              ap₂ (λ c r. if c then asleep_after r (is_asleep past (plan_worker (slot i)))
              else is_asleep past (plan_worker (slot i))) (by_itself e (plan_worker (slot i)) refl) woke;
        },
        tt,
      );
  sleeping =
      All_filter (λ k. IsRunAt (e ∷ past) (slot k.item) k.item true) (λ k. not (is_sleeper i k)) m.sleeping
      (All_map (λ k. IsRunAt past (slot k.item) k.item true) _ m.sleeping
      (λ k r kept. other k.item true r (not-true (is_sleeper i k) kept)) h.sleeping);
  no_others = λ w n runs. let k = h.no_others w n (sym (same_runs (layout_for s) past e w legal after) ∙ runs) in
      (k.0, moved n k.1);
  once = λ k.
      let a = count_push (is_job k) m.cpu (record { item = i; burn = burn; left = left }) in
      let b = taken_out (λ (x : Sleeper). x.item) k i m.sleeping in
      grind (arith, h.once k, some);
  few = omega (
    arith,
    h.few,
    one_fewer (is_sleeper i) m.sleeping on,
    length-append m.cpu (record { item = i; burn = burn; left = left } ∷ []),
  );
}
  where
    e : Entry
    e = entry_for (layout_for s) past (Worker (plan_worker (slot i))) call.Wake

    some : 1 ≤ count_by (is_sleeper i) m.sleeping
    some = any_counted (is_sleeper i) m.sleeping on

    run_at : IsRunAt past (slot i) i true
    run_at = run_of (λ (x : Sleeper). x.item) past slot true i m.sleeping h.sleeping on

    woke : answer (layout_for s) past (Worker (plan_worker (slot i))) call.Wake ≡ reply.Woke
    woke = wake_answered s past (slot i) i run_at

    quiet : IsQuiet (answer (layout_for s) past (Worker (plan_worker (slot i))) call.Wake)
    quiet = subst IsQuiet (sym woke)
        (record {
          ends = record { finishes = refl; cancels = refl; replaces = refl };
          opens = refl;
          widths = refl;
          stays = refl;
        })

    legal : IsLegal (layout_for s) (e ∷ past)
    legal = (
      ap (λ b. (b && true) && true)
          (lt-ltb (slot i) 8 (runner_there (layout_for s) past (plan_worker (slot i)) i h.legal run_at.runs)),
      refl,
      h.legal,
    )

    after : (o : Option ℕ) → run_after (answer (layout_for s) past (Worker (plan_worker (slot i))) call.Wake) o ≡ o
    after o = ap (λ r. run_after r o) woke

    other : (k : ℕ) (b : Bool) → IsRunAt past (slot k) k b → (k == i) ≡ false → IsRunAt (e ∷ past) (slot k) k b
    other k b r differs =
        goes_by (layout_for s) past e (slot i) (slot k) k b legal refl
        (other_slot past slot i k true b run_at r differs) r

    moved : (n : ℕ) → runs_in m n ≡ true → runs_in (awake_with m i burn left) n ≡ true
    moved n k =
        let a = last_any (is_job n) m.cpu (record { item = i; burn = burn; left = left }) in
        let b = others_there (λ (x : Sleeper). x.item) n i m.sleeping in
        grind (arith, nat_tests)
