use Rattle.std.proofs.Common.{ap₂, ◌∙◌, ◌≡◌}
use Rattle.cmwq_model.specs.Prelude.{past_of}
use Rattle.cmwq_summary.specs.declared.counter.Counter.TheVariants.{CallerCalls, WorkerRuns}
use Rattle.cmwq_summary.specs.Figures.{counted}
use Rattle.cmwq_views.specs.Page.{caller_row, worker_row}
use Rattle.cmwq_views.proofs.rows.row.Goals as goal

pub returns-in-Workers : goal.returns-in-Workers
returns-in-Workers c =
    let past = past_of c.args.progress.now.entries in
    let many : c.count-many.result ≡ counted WorkerRuns past c.args.at =
    rw (c.summary-summary.ensures, c.counter.ensures, c.in-Workers.is) at c.count-many.ensures in
    rw c.in-Workers.is (c.worker_row.ensures ∙ ap₂ (worker_row past) c.worker_at.ensures.is many)

pub returns-in-Callers : goal.returns-in-Callers
returns-in-Callers c =
    let past = past_of c.args.progress.now.entries in
    let many : c.count-many.result ≡ counted CallerCalls past c.args.at =
    rw (c.summary-summary.ensures, c.counter.ensures, c.in-Callers.is) at c.count-many.ensures in
    rw c.in-Callers.is (c.caller_row.ensures ∙ ap₂ (caller_row past) c.caller_at.ensures many)
