use Rattle.std.proofs.Common.{◌∙◌, arith}
use Rattle.cmwq_pool.proofs.Workers.{first_of_bits, past_the_bits}
use Rattle.cmwq_pool.proofs.reserve.first_reserve.Goals as goal

pub returns-then-bits-eq0 : goal.returns-then-bits-eq0
returns-then-bits-eq0 c =
    c.first_reserve_from.ensures ∙ past_the_bits c.args.bits c.args.slots.now c.requires.bits c.if-bits-eq0.true

pub returns-else-bits-eq0 : goal.returns-else-bits-eq0
returns-else-bits-eq0 c = first_of_bits c.args.bits c.args.slots.now c.requires.bits (omega arith) (omega arith)
