use Rattle.cmwq_theory_laws.specs.Common.{cause_of, number_reason}
use Rattle.cmwq_theory_laws.proofs.fidelity.replies_name_themselves.Goals as goal

pub returns : goal.returns
returns c = λ s past e k legal given. number_reason s past e.who e.call e.reply k (cause_of s past e legal) given
