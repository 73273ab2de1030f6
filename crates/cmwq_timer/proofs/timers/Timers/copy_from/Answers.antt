use Rattle.std.proofs.Common.{None, arith}
use Rattle.std.proofs.lemmas.List.{ext_get_or}
use Rattle.cmwq_timer.proofs.timers.Timers.copy_from.Goals as goal

pub returns : goal.returns
returns c =
    let last = c.loop-number in
    ext_get_or None last.self c.args.other.now last.invariant.many
    (λ i low. last.invariant.copied i (omega (arith, low, last.invariant.many)))
