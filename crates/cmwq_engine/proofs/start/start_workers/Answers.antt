use Rattle.cmwq_engine.specs.Common.{◌≡◌, suc, ◌+◌, ◌++◌, ◌∷◌, [], length, length-append, arith, ap, sym, ◌∙◌, subst}
use Rattle.cmwq_engine.specs.Common.{slice_get, Some, WorkerId, Worker, newcomer, worker_by_number, next_after}
use Rattle.cmwq_engine.proofs.Gathering.{all_push}
use Rattle.cmwq_engine.proofs.Starting.{worker_given}
use Rattle.cmwq_engine.proofs.start.start_workers.Goals as goal

pub loop-preserved : goal.loop-preserved
loop-preserved g c =
    let s = g.N.HubName.layout in
    let inv = c.loop.invariant in
    let hs = c.loop.threads.items in
    let h = c.in-Ok-start_worker.thread in
    let items = c.push_reserved.ensures.items ∙ ap (λ l. l ++ h ∷ []) c.reserve.ensures.items in
    let given = worker_given s c.loop.participants c.worker.new.self c.in-Ok.worker c.in-Ok.ensures.given in
    let which = given.3 in
    let more : length c.push_reserved.new.self.items ≡ suc (length hs) = ap length items ∙ length-append hs (h ∷ [])
    ∙ (omega arith) in (
      given.0 ∙ ap (next_after s) inv.0 ∙ ap (worker_by_number s) (sym more),
      (let n = given.1 in let i = inv.1 in let m = more in omega (arith, n, i, m)),
      given.2 ∙ inv.2,
      (λ k x at.
          all_push (λ k h. (x : WorkerId) × (worker_by_number s k ≡ Some x)
          × (h.promise.worker.value ≡ newcomer (Worker x)) × (h.promise.work.value ≡ c.args.shared.now.work.now))
          hs h inv.3 (
            which.0,
            sym inv.0 ∙ which.1,
            c.in-Ok-start_worker.ensures.thread.0 ∙ which.2,
            c.in-Ok-start_worker.ensures.thread.1,
          )
          k x (subst (λ l. slice_get l k ≡ Some x) items at)),
    )
