use Rattle.std.proofs.Common.{arith}
use Rattle.cmwq_pool.specs.Slots.{slot_at}
use Rattle.cmwq_pool.proofs.Workers.{bits_turned, bits_kept, stays, turns}
use Rattle.cmwq_pool.proofs.reserve.reserve_after.Goals as goal
use Rattle.cmwq_pool.proofs.reserve.reserve_after.Goals.{else-worker-lt-BITS-via-then-worker-lt-BITS+else-slot-before}
use Rattle.cmwq_pool.proofs.reserve.reserve_after.Goals.{else-worker-lt-BITS-via-else-worker-lt-BITS}

pub returns-then-slot-before : goal.returns-then-slot-before
returns-then-slot-before c =
    bits_turned c.args.bits c.args.slots.now c.requires.bits c.args.worker c.args.slot.now c.requires.worker
    c.if-worker-lt-BITS.true
    (turns c.args.slot.now.enlisted (slot_at c.args.slots.now c.args.worker).enlisted
    (rw c.from.ensures at c.if-slot-before.true))

pub returns-else-worker-lt-BITS : goal.returns-else-worker-lt-BITS
returns-else-worker-lt-BITS c =
    bits_kept c.args.bits c.args.slots.now c.requires.bits c.args.worker c.args.slot.now c.requires.worker
    (elim c.else-worker-lt-BITS.branch [
      | else-worker-lt-BITS-via-then-worker-lt-BITS+else-slot-before w ↦
          λ small. stays c.args.slot.now.enlisted (slot_at c.args.slots.now c.args.worker).enlisted
          (rw c.from.ensures at w.if-slot-before.false)
      | else-worker-lt-BITS-via-else-worker-lt-BITS w ↦ λ small. absurd (omega (arith, w.if-worker-lt-BITS.false, small))
    ])
