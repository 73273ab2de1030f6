use Rattle.std.proofs.Common.{sym, ◌∙◌}
use Rattle.cmwq_board.proofs.Started.{planned_starts}
use Rattle.cmwq_board.proofs.entering.plan_of.Goals as goal

pub unreachable-requires-in_default-item : goal.unreachable-requires-in_default-item
unreachable-requires-in_default-item c =
    let is = c.in-Some.ensures.0.mark.starts c.in-Some-number_started.number
    (sym c.number_started.ensures ∙ c.in-Some-number_started.is) in
    c.in_default-item.not-Some is.queueing.item is.is_its

pub returns-clause-starts : goal.returns-clause-starts
returns-clause-starts c =
    sym (planned_starts c.args.dispatch.now.history c.args.worker c.in-Some.plan c.in-Some.ensures.0
    c.in-Some.ensures.1)
