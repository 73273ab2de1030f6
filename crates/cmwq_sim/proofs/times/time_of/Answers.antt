use Rattle.std.proofs.Common.{rules, arith}
use Rattle.cmwq_sim.specs.Limits.{IsBetween}
use Rattle.cmwq_sim.proofs.Progress.{all_at}
use Rattle.cmwq_sim.proofs.times.time_of.Goals as goal

pub overflow_add-time : goal.overflow_add-time
overflow_add-time c =
    let short = all_at (IsBetween 1 1000) c.args.ms.now c.loop-part.part-index 0 c.requires.short (omega arith) in
    search rules
