use Rattle.std.proofs.Common.{arith, sym}
use Rattle.cmwq_plain.proofs.Parts.{entry_at-upto}
use Rattle.cmwq_plain.proofs.runs.entry_at.Goals as goal

pub returns-then-number-len : goal.returns-then-number-len
returns-then-number-len c = sym (entry_at-upto c.args.past.now c.args.number _ (omega arith) c.at.ensures.step)
