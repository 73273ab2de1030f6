use Rattle.std.proofs.Common.{rules}
use Rattle.cmwq_kinds.proofs.Apart.{calls_stand_apart}
use Rattle.cmwq_kinds.proofs.numbers.is_same_call.Goals as goal

-- src/numbers.rt:107:1
pub returns-clause-same : goal.returns-clause-same
returns-clause-same c = λ is. calls_stand_apart c.args.one c.args.other (search rules)
