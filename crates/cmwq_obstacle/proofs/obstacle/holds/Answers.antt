use Rattle.std.proofs.Common.{sym, ap, ◌∙◌, not}
use Rattle.cmwq_model.specs.Prelude.{Layout, is_intensive, past_of}
use Rattle.cmwq_obstacle.proofs.Holding.{holds_by}
use Rattle.cmwq_obstacle.proofs.obstacle.holds.Goals as goal

pub returns-in-Some : goal.returns-in-Some
returns-in-Some c =
    holds_by c.args.state.now.layout (past_of c.args.state.now.entries) c.args.worker c.in-Some.run'
    c.holds_its_pool.result (sym c.runs_awake.ensures ∙ c.if-not-runs_awake.false)
    (sym c.queueing_run.ensures ∙ c.in-Some.is)
    (c.holds_its_pool.ensures
    ∙ ap (λ (s : Layout). not (is_intensive s c.in-Some.run'.place.queue.0)) c.requires.shape)
