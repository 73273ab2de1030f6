use Rattle.std.proofs.Common.{◌∙◌, sym}
use Rattle.cmwq_core.specs.History.{past_in}
use Rattle.cmwq_waits.proofs.Running.{is_running}
use Rattle.cmwq_waits.proofs.search.Search.refuses.Goals as goal

pub refuses_run-requires-clause-open : goal.refuses_run-requires-clause-open
refuses_run-requires-clause-open c =
    let h = c.args.execution.now in
    (is_running h.layout (past_in h) c.args.worker c.in-Some.run' c.len-legal.ensures.legal
    (sym (rw c.state.ensures at c.queueing_run.ensures) ∙ c.in-Some.is)).is_open

pub refuses_run-requires-clause-started : goal.refuses_run-requires-clause-started
refuses_run-requires-clause-started c =
    let h = c.args.execution.now in
    (is_running h.layout (past_in h) c.args.worker c.in-Some.run' c.len-legal.ensures.legal
    (sym (rw c.state.ensures at c.queueing_run.ensures) ∙ c.in-Some.is)).has_started
