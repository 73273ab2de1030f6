use Rattle.cmwq_trial.proofs.seeds.try_seed.Goals as goal

pub returns-in_default : goal.returns-in_default
returns-in_default g c =
    (c.stopped_at_first.ensures.reliable c.args.shape.now, c.stopped_at_first.ensures.same)
