use Rattle.std.proofs.Common.{sym, subst, ◌∙◌, ◌<◌}
use Rattle.cmwq_model.specs.Prelude.{past_of}
use Rattle.cmwq_obstacle.proofs.Ranges.{find_none, find_first}
use Rattle.cmwq_views.specs.Lent.{runs_number, worker_rows}
use Rattle.cmwq_views.proofs.lent.row_running.Goals as goal

pub returns-then-runs_number-clause-is : goal.returns-then-runs_number-clause-is
returns-then-runs_number-clause-is c =
    let s = c.args.standing.now.layout in
    sym (find_first (runs_number s (past_of c.args.standing.now.entries) c.args.queueing)
    c.loop-number.number (worker_rows s) c.loop-number.invariant
    (sym c.runs_number.ensures ∙ c.if-runs_number.true)
    (subst (λ n. c.loop-number.number < n) c.worker_rows-number-end.ensures c.loop-number-test.true))

pub loop-number-preserved : goal.loop-number-preserved
loop-number-preserved c =
    find_none (runs_number c.args.standing.now.layout (past_of c.args.standing.now.entries) c.args.queueing)
    c.loop-number.number c.loop-number.invariant (sym c.runs_number.ensures ∙ c.if-runs_number.false)
