use Rattle.std.proofs.Common.{arith}
use Rattle.std.proofs.lemmas.Bool.Decides.{nat_tests}
use Rattle.std.proofs.lemmas.Nat.Bits.{bit_at_above}
use Rattle.cmwq_dispatch.proofs.worker_set.WorkerSet.contains.Goals as goal

pub returns-else-index-lt64-clause-has : goal.returns-else-index-lt64-clause-has
returns-else-index-lt64-clause-has c =
    let high = c.if-index-lt64.false in
    let none = bit_at_above c.args.self.now.bits 64 c.args.index (omega arith) (omega arith) in
    grind (arith, nat_tests)
