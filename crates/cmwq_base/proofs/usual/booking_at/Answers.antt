use Rattle.std.specs.Fmt.{decimal}
use Rattle.cmwq_base.proofs.UsualLines.{four_numbers}
use Rattle.cmwq_base.proofs.usual.booking_at.Goals as goal

pub returns : goal.returns
returns c =
    four_numbers c.args.bytes.now c.in_ok-item.left.now c.in_ok-ticks.left.now (decimal c.in_ok-item.item.0)
    (decimal c.in_ok-item.queue.0) (decimal c.in_ok-item.cpu.0) (decimal c.in_ok-ticks.ticks) c.in_ok-item.ensures
    c.in_ok-ticks.ensures.exact
