use Rattle.std.specs.Prelude.{◌≡◌, false}
use Rattle.std.proofs.Common.{◌∙◌, subst, sym}
use Rattle.cmwq_core.specs.History.{past_in}
use Rattle.cmwq_board.specs.Steps.{has_worker}
use Rattle.cmwq_board.proofs.WaitingRuns.{outsider_has_none}
use Rattle.cmwq_board.proofs.runs.queueing_run.Goals as goal

pub returns-then-not-has_worker : goal.returns-then-not-has_worker
returns-then-not-has_worker c =
    let h = c.args.execution.now in
    sym (outsider_has_none h.layout (past_in h) c.args.worker c.len-legal.ensures.legal
    (subst (λ s. has_worker s c.args.worker ≡ false) (sym c.requires)
    (sym c.has_worker.ensures ∙ c.if-not-has_worker.true)))
