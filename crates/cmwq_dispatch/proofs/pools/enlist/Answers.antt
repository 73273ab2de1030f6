use Rattle.std.proofs.Common.{◌∙◌, arith, sym, ap}
use Rattle.std.proofs.lemmas.Option.{slice_get-get_or}
use Rattle.cmwq_theory_steps.specs.Common.{slice_get, worker_at}
use Rattle.cmwq_dispatch.proofs.EachPool.{caller_entered, far_entered, rest_same_set, worker_entered}
use Rattle.cmwq_dispatch.proofs.pools.enlist.Goals as goal

pub returns-in_default-clause-recorded : goal.returns-in_default-clause-recorded
returns-in_default-clause-recorded c s past legal =
    caller_entered s past c.args.entry.now c.args.pools.now legal (λ w who. let is = c.in_default.is in cc)

pub returns-then-place-pools-clause-recorded : goal.returns-then-place-pools-clause-recorded
returns-then-place-pools-clause-recorded c s past legal =
    far_entered s past c.args.entry.now c.args.pools.now c.in-Worker.worker legal c.in-Worker.is
    (omega (arith, c.place_of-place.ensures, c.if-place-pools.true)) c.requires

pub entered-requires : goal.entered-requires
entered-requires c x who =
    c.requires (worker_at c.in-Worker.worker.pool x) _ who
    (ap (slice_get c.args.pools.now) (sym c.place_of-place.ensures)
    ∙ slice_get-get_or c.args.pools.now c.place_of-place.result _ c.if-place-pools.false)

pub returns-clause-recorded : goal.returns-clause-recorded
returns-clause-recorded c s past legal all =
    worker_entered s past c.args.entry.now c.args.pools.now c.in-Worker.worker c.place_of-place.result _ legal
    c.in-Worker.is c.place_of-place.ensures c.requires all
    (c.entered.ensures.recorded s past legal (all c.in-Worker.worker.pool _
    (ap (slice_get c.args.pools.now) (sym c.place_of-place.ensures)
    ∙ slice_get-get_or c.args.pools.now c.place_of-place.result _ c.if-place-pools.false)))

pub returns-clause-same : goal.returns-clause-same
returns-clause-same c =
    rest_same_set c.args.pools.now c.place_of-place.result _ _
    (slice_get-get_or c.args.pools.now c.place_of-place.result _ c.if-place-pools.false) c.entered.ensures.same
