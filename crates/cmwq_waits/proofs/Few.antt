-- There are at most as many waits as workers whose runs sleep.
use Rattle.std.proofs.Common.{◌≡◌, ◌∙◌, ◌∷◌, ◌<◌, ◌≤◌, List, Some, ap, arith, false, filter, inl, inr, length, not}
use Rattle.std.proofs.Common.{refl, subst, suc, sym, true, ⊎_elim, []}
use Rattle.std.specs.Prelude.{is_some, option_and_then}
use Rattle.std.proofs.lemmas.Bool.{and_from, false_from_ne_true}
use Rattle.std.proofs.lemmas.List.Sums.{length-filter}
use Rattle.std.proofs.lemmas.Option.{same_Some}
use Rattle.cmwq_lemmas.proofs.Lists.{filter_shorter}
use Rattle.cmwq_lemmas.proofs.Members.{In, contained_in, filter_in, in_any}
use Rattle.cmwq_lemmas.proofs.Passing.{counted_any}
use Rattle.cmwq_model.specs.Prelude.{IsLegal, Layout, queueing_at, run, runs_asleep, same_worker, workers}
use Rattle.cmwq_model.specs.declared.entry.Entry.{Entry}
use Rattle.cmwq_model.specs.declared.id.PoolId.{PoolId}
use Rattle.cmwq_model.specs.declared.id.Who.TheVariants.{Worker}
use Rattle.cmwq_model.specs.declared.id.WorkerId.{WorkerId}
use Rattle.cmwq_model.specs.declared.record.Queueing.{Queueing}
use Rattle.cmwq_state.specs.Tables.{IsThere}
use Rattle.cmwq_theory_steps.specs.ItemQueueings.{queueing_run}
use Rattle.cmwq_theory_steps.proofs.ItemRuns.{same_worker-true, same_worker_itself}
use Rattle.cmwq_theory_steps.proofs.Points.{is_worker, worker_once}
use Rattle.cmwq_theory_steps.proofs.Pools.{runs_are_in_pools}
use Rattle.cmwq_refinement.proofs.PlacesFit.{open_there}
use Rattle.cmwq_refinement.proofs.PoolNext.{runner_there}
use Rattle.cmwq_waits.specs.Refused.{AreApart}
use Rattle.cmwq_waits.specs.declared.run_wait.RunWait.{RunWait}
use Rattle.cmwq_waits.proofs.Running.{is_running}
use Rattle.cmwq_waits.proofs.Greatest.{later_apart}
use Rattle.cmwq_waits.specs.Begun.{WaitsAreFew, waits_of}
use Rattle.cmwq_waits.proofs.Begun.{in_waits, runs_by, waits_are_apart}

-- ---- the workers of a layout

pub there_in : (s : Layout) (w : WorkerId) → IsThere s (Worker w) → In w (workers s)
there_in s w there =
    let k = in_any (is_worker w) (workers s)
    (counted_any (is_worker w) (workers s) (omega (arith, worker_once s w there.0 there.1))) in
    subst (λ v. In v (workers s)) (same_worker-true k.0 w k.2) k.1

-- a worker that runs something is one of them
runner_in : (s : Layout) (past : List Entry) (w : WorkerId) (x : Queueing) → IsLegal s past
    → queueing_run past (Worker w) ≡ Some x → IsThere s (Worker w)
runner_in s past w x legal runs =
    let number = (runs_by past w x runs).runs in
    let r = runs_are_in_pools s past w x.number legal number in
    let its : queueing_run past (Worker w) ≡ Some r.queueing =
    ap (option_and_then (queueing_at past)) number ∙ r.found in
    let opened = (is_running s past w r.queueing legal its).is_open in
    let place = open_there s past r.queueing legal (contained_in _ r.queueing opened) in (
      subst (λ (p : PoolId). p.cpu.0 < s.cpus) r.pool place.cpu,
      runner_there s past w x.number legal number,
    )

-- ---- each wait has a worker of its own

drop_worker : (v : WorkerId) (zs : List WorkerId) → In v zs
    → length (filter (λ z. not (same_worker z v)) zs) < length zs
drop_worker v [] here = absurd here
drop_worker v (z ∷ zs) here =
    ⊎_elim
    (λ (is : z ≡ v). let own : same_worker z v ≡ true =
    subst (λ u. same_worker u v ≡ true) (sym is) (same_worker_itself v) in
    grind (arith, own, filter_shorter (λ u. not (same_worker u v)) zs))
    (λ later. grind (arith, drop_worker v zs later, filter_shorter (λ u. not (same_worker u v)) zs)) here

-- the worker of a wait among some
record HasWorker (past : List Entry) (zs : List WorkerId) (w : RunWait) : Type 0 where
  worker : WorkerId
  runs : queueing_run past (Worker worker) ≡ Some w.run
  there : In worker zs

fewer : (past : List Entry) (ws : List RunWait) (zs : List WorkerId) → AreApart ws
    → ((w : RunWait) → In w ws → HasWorker past zs w) → length ws ≤ length zs
fewer past [] zs apart have = omega arith
fewer past (w ∷ ws) zs apart have =
    let k = have w (inl refl) in
    let left = filter (λ z. not (same_worker z k.worker)) zs in
    let fewer_left =
    fewer past ws left (λ i j d less within. apart (suc i) (suc j) d (omega arith) (omega arith))
    (λ u here. others k u here) in
    omega (arith, fewer_left, drop_worker k.worker zs k.there)
  where
    others : (k : HasWorker past zs w) (u : RunWait) → In u ws
        → HasWorker past (filter (λ z. not (same_worker z k.worker)) zs) u
    others k u here =
        let o = have u (inr here) in
        let differs : same_worker o.worker k.worker ≡ false = false_from_ne_true _ (λ same.
        let worker = same_worker-true o.worker k.worker same in
        let run : w.run ≡ u.run = same_Some w.run u.run
        (sym k.runs ∙ sym (ap (λ v. queueing_run past (Worker v)) worker) ∙ o.runs) in
        absurd (later_apart w u ws apart here (ap (λ (x : Queueing). x.number) run))) in
        record {
          worker = o.worker;
          runs = o.runs;
          there = filter_in (λ z. not (same_worker z k.worker)) zs o.worker o.there (ap not differs);
        }

pub waits_are_few : WaitsAreFew
waits_are_few first s past legal =
    omega (
      arith,
      fewer past (waits_of first past) (filter (runs_asleep past) (workers s)) (waits_are_apart first s past legal)
          (λ w here.
          let k = in_waits first s past legal w here in
          let has : is_some (run past k.worker) ≡ true = ap is_some (runs_by past k.worker w.run k.runs).runs in
          record {
            worker = k.worker;
            runs = k.runs;
            there = filter_in (runs_asleep past) (workers s) k.worker
                (there_in s k.worker (runner_in s past k.worker w.run legal k.runs))
                (and_from _ _ has k.asleep);
          }),
      length-filter (runs_asleep past) (workers s),
    )
