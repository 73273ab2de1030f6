use Rattle.cmwq_theory_steps.proofs.Rising.{queueings_rise, open_rise}
use Rattle.cmwq_theory_laws.proofs.fidelity.queueings_stand_by_number.Goals as goal

pub returns : goal.returns
returns c = λ past. (queueings_rise past, open_rise past)
