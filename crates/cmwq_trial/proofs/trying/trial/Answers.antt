use Rattle.cmwq_trial.proofs.trying.trial.Goals as goal

pub returns-in-Err-clause-failed : goal.returns-in-Err-clause-failed
returns-in-Err-clause-failed g c =
    (c.stopped_at_first.ensures.reliable c.args.shape.now, c.stopped_at_first.ensures.same)
