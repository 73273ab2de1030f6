use Rattle.std.proofs.Common.{sym, subst, ap, ◌∙◌, ◌<◌}
use Rattle.cmwq_model.specs.Prelude.{Layout, is_holding, past_of}
use Rattle.cmwq_obstacle.proofs.Ranges.{find_none, find_first}
use Rattle.cmwq_obstacle.proofs.obstacle.holder.Goals as goal

pub returns-then-holds : goal.returns-then-holds
returns-then-holds c =
    sym (find_first (is_holding c.args.state.now.layout (past_of c.args.state.now.entries) c.args.pool)
    c.loop-index.index c.args.state.now.layout.workers c.loop-index.invariant (sym c.holds.ensures ∙ c.if-holds.true)
    (subst (λ n. c.loop-index.index < n)
    (ap (λ (s : Layout). s.workers) (c.counts-index-end.ensures.counts ∙ c.requires.shape)) c.loop-index-test.true))

pub loop-index-preserved : goal.loop-index-preserved
loop-index-preserved c =
    find_none (is_holding c.args.state.now.layout (past_of c.args.state.now.entries) c.args.pool) c.loop-index.index
    c.loop-index.invariant (sym c.holds.ensures ∙ c.if-holds.false)
