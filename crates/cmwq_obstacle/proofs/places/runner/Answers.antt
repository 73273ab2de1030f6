use Rattle.std.proofs.Common.{sym, subst, ap, ◌∙◌, ◌<◌}
use Rattle.cmwq_model.specs.Prelude.{Layout, past_of}
use Rattle.cmwq_obstacle.specs.Obstacles.{runs_there}
use Rattle.cmwq_obstacle.proofs.Ranges.{find_none, find_first}
use Rattle.cmwq_obstacle.proofs.places.runner.Goals as goal

pub returns-then-runs_there-clause-is : goal.returns-then-runs_there-clause-is
returns-then-runs_there-clause-is c =
    sym (find_first (runs_there (past_of c.args.state.now.entries) c.args.place c.args.pool)
    c.loop-index.index c.args.state.now.layout.workers c.loop-index.invariant
    (sym c.runs_there.ensures ∙ c.if-runs_there.true)
    (subst (λ n. c.loop-index.index < n)
    (ap (λ (s : Layout). s.workers) (c.counts-index-end.ensures.counts ∙ c.requires.shape)) c.loop-index-test.true))

pub loop-index-preserved : goal.loop-index-preserved
loop-index-preserved c =
    find_none (runs_there (past_of c.args.state.now.entries) c.args.place c.args.pool) c.loop-index.index
    c.loop-index.invariant (sym c.runs_there.ensures ∙ c.if-runs_there.false)
