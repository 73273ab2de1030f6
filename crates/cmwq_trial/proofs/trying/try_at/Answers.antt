use Rattle.cmwq_trial.proofs.trying.try_at.Goals as goal

pub returns-in_default-clause-failed : goal.returns-in_default-clause-failed
returns-in_default-clause-failed g c =
    (c.stopped_at_first.ensures.reliable c.args.shape.now, c.stopped_at_first.ensures.same)

pub returns-in-Err-clause-failed : goal.returns-in-Err-clause-failed
returns-in-Err-clause-failed g c =
    (c.stopped_at_first-in-Err.ensures.reliable c.args.shape.now, c.stopped_at_first-in-Err.ensures.same)

pub returns-in-Err-in_turns-clause-failed : goal.returns-in-Err-in_turns-clause-failed
returns-in-Err-in_turns-clause-failed g c =
    let ensures = c.stopped_at_first-in-Err-in_turns.ensures in
    (ensures.reliable c.args.shape.now, ensures.same)
