use Rattle.std.proofs.Common.{sym, subst, ◌∙◌, ◌<◌}
use Rattle.cmwq_model.specs.Prelude.{past_of}
use Rattle.cmwq_obstacle.proofs.Ranges.{find_none, find_first}
use Rattle.cmwq_views.specs.Lent.{is_queued_as}
use Rattle.cmwq_views.proofs.lent.item_queued.Goals as goal

pub returns-then-is_queued_as-clause-is : goal.returns-then-is_queued_as-clause-is
returns-then-is_queued_as-clause-is c =
    sym (find_first (is_queued_as (past_of c.args.standing.now.entries) c.args.queueing)
    c.loop-number.number c.args.standing.now.layout.items c.loop-number.invariant
    (sym c.is_queued_as.ensures ∙ c.if-is_queued_as.true)
    (subst (λ n. c.loop-number.number < n) c.item_rows-number-end.ensures c.loop-number-test.true))

pub loop-number-preserved : goal.loop-number-preserved
loop-number-preserved c =
    find_none (is_queued_as (past_of c.args.standing.now.entries) c.args.queueing)
    c.loop-number.number c.loop-number.invariant (sym c.is_queued_as.ensures ∙ c.if-is_queued_as.false)
