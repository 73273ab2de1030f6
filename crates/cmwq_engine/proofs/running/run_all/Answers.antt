use Rattle.cmwq_engine.specs.Common.{◌≡◌, ℕ, ◌<◌, true, length, get_or, arith, ap, sym, ◌∙◌, subst, slice_get, Some}
use Rattle.cmwq_engine.specs.Common.{IfOk, IfErr, breaks_off, slice_get_within, slice_get-get_or, get_or_from_slice_get}
use Rattle.cmwq_engine.specs.Common.{Worker, newcomer, worker_by_number, Places, Roster}
use Rattle.cmwq_engine.specs.Ended.{AreNewcomers, CalledAt, WorkedFrom, used}
use Rattle.cmwq_engine.proofs.running.run_all.Goals as goal

pub returns-clause-run : goal.returns-clause-run
returns-clause-run g c =
    let s = g.N.HubName.layout in
    let does = g.W.Work.does c.args.shared.now.work.now s in
    let calls = g.C.Crew.calls c.args.shared.now.crew.now in
    let roles = g.C.Crew.roles c.args.shared.now.crew.now s in
    let threads : c.args.roster.threads ≡ roles.threads = ap (λ (r : Roster). r.threads) c.requires.roster in
    let lent : c.args.roster.lent ≡ roles.lent = ap (λ (r : Roster). r.lent) c.requires.roster in
    let hs = c.in-Ok.handles.items in
    let rs = c.in-Ok-joined.callers.items in
    let ws = c.in-Ok-start_workers.working.items in
    let xs = c.in-Ok-ended.workers.items in
    let started = c.in-Ok.ensures in
    let working = c.in-Ok-start_workers.ensures in
    let joined = c.in-Ok-joined.ensures in
    let ended = c.in-Ok-ended.ensures in
    let of_callers = c.in-Ok.handles.ok in
    let of_workers = c.in-Ok-start_workers.working.ok in
    let got = c.in-Ok-joined.callers.ok in
    let got_workers = c.in-Ok-ended.workers.ok in
    let len : length rs ≡ length hs = sym got.0 ∙ joined.len ∙ of_callers.0 in
    let len_workers : length xs ≡ length ws = sym got_workers.0 ∙ ended.len ∙ of_workers.0 in
    let are_many : length rs ≡ roles.threads = len ∙ started.all.1 ∙ threads in
    let lends = c.in-Ok-lend_callers.ensures.all in
    let callers_are : c.start_workers.new.participants.callers ≡ used roles = (let a = working.all.2 in
    let b = ap (λ (p : Places). p.callers) lends in
    let d = ap (λ (p : Places). p.callers) started.all.0 in
    let e = started.all.1 in
    omega (arith, a, b, d, e, threads, lent)) in
    record {
      callers = record {
        all = are_many;
        faults = (λ k e at.
            let lt = slice_get_within rs k e at in
            let within : k < length hs = (let l = len in omega (arith, lt, l)) in
            subst (λ z. IfErr z.outcome (λ f. breaks_off f ≡ true)) (get_or_from_slice_get rs k e e at)
            (joined.each k e (subst (λ (n : ℕ). k < n) (sym of_callers.0) within)).1.kept.1);
        called = (λ k e at.
            let lt = slice_get_within rs k e at in
            let within : k < length hs = (let l = len in omega (arith, lt, l)) in
            let keeps = (joined.each k e (subst (λ (n : ℕ). k < n) (sym of_callers.0) within)).1 in
            let y = get_or rs k e in
            let h = keeps.handle in
            let there : slice_get hs k ≡ Some h = slice_get-get_or hs k h within ∙ ap Some (sym keeps.handle_is) in
            let p = started.each k h there in
            subst (λ z. IfOk z.outcome (λ full. CalledAt s calls k full z.caller)) (get_or_from_slice_get rs k e e at)
            (subst (λ n. IfOk y.outcome (λ full. CalledAt s calls n full y.caller)) p.0
            (subst (λ v. IfOk y.outcome (λ full. CalledAt s (g.C.Crew.calls v) h.promise.number full y.caller)) p.1
            keeps.kept.0)));
      };
      workers = record {
        all = ap (worker_by_number s) len_workers ∙ working.all.0;
        faults = (λ k e at.
            let lt = slice_get_within xs k e at in
            let within : k < length ws = (let l = len_workers in omega (arith, lt, l)) in
            subst (λ z. IfErr z.outcome (λ f. breaks_off f ≡ true)) (get_or_from_slice_get xs k e e at)
            (ended.each k e (subst (λ (n : ℕ). k < n) (sym of_workers.0) within)).1.kept.1);
        worked = (λ k e at.
            let lt = slice_get_within xs k e at in
            let within : k < length ws = (let l = len_workers in omega (arith, lt, l)) in
            let keeps = (ended.each k e (subst (λ (n : ℕ). k < n) (sym of_workers.0) within)).1 in
            let y = get_or xs k e in
            let h = keeps.handle in
            let started_at : slice_get ws k ≡ Some h = slice_get-get_or ws k h within ∙ ap Some (sym keeps.handle_is) in
            let p = working.each k h started_at in (
              p.0,
              p.1,
              subst (λ z. IfOk z.outcome (λ t. WorkedFrom s does t.left_out (newcomer (Worker p.0)) z.worker))
                  (get_or_from_slice_get xs k e e at)
                  (subst (λ v. IfOk y.outcome (λ t. WorkedFrom s does t.left_out v y.worker)) p.2
                  (subst (λ w. IfOk y.outcome
                  (λ t. WorkedFrom s (g.W.Work.does w s) t.left_out h.promise.worker.value y.worker)) p.3
                  keeps.kept.0)),
            ));
      };
      idle = subst (λ (n : ℕ). AreNewcomers s n c.in_ok-idle.idle.items) callers_are c.in_ok-idle.ensures.all;
      parts = (let a = c.into_rest.ensures.0 in
          let b = c.in_ok-idle.ensures.participants.0 in
          let d = c.in_ok-idle.ensures.participants.1 in
          let e = working.all.1 in
          let f = ap (λ (p : Places). p.workers) started.all.0 in
          let h = ap (λ (p : Places). p.workers) lends in
          let z = ap (λ (p : Places). p.workers) c.requires.fresh in
          let k = callers_are in
          let l = are_many in
          let w = len_workers in
          omega (arith, a, b, d, e, f, h, z, k, l, w));
      amount = c.into_rest.ensures.1;
    }
