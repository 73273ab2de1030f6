use Rattle.std.proofs.Common.{sym, subst, ap, ◌∙◌, ◌<◌}
use Rattle.cmwq_model.specs.Prelude.{Layout, is_idle, past_of}
use Rattle.cmwq_obstacle.proofs.Ranges.{any_none, any_first_of}
use Rattle.cmwq_obstacle.proofs.obstacle.is_any_idle.Goals as goal

pub returns-then-is_idle : goal.returns-then-is_idle
returns-then-is_idle c =
    sym (any_first_of (is_idle (past_of c.args.state.now.entries) c.args.pool) c.loop-index.index
    c.args.state.now.layout.workers (sym c.is_idle.ensures ∙ c.if-is_idle.true)
    (subst (λ n. c.loop-index.index < n)
    (ap (λ (s : Layout). s.workers) (c.counts-index-end.ensures.counts ∙ c.requires.shape)) c.loop-index-test.true))

pub loop-index-preserved : goal.loop-index-preserved
loop-index-preserved c =
    any_none (is_idle (past_of c.args.state.now.entries) c.args.pool) c.loop-index.index c.loop-index.invariant
    (sym c.is_idle.ensures ∙ c.if-is_idle.false)
