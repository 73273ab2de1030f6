use Rattle.cmwq_model.proofs.Growing.{fronts_are_legal, older_are_legal, one_more_is_newest, longer_begin_with_older}
use Rattle.cmwq_theory_steps.proofs.histories.histories_grow.Goals as goal

pub returns : goal.returns
returns c = assumption (fronts_are_legal, older_are_legal, one_more_is_newest, longer_begin_with_older)
