use Rattle.std.specs.Fmt.{decimal}
use Rattle.cmwq_base.proofs.UsualLines.{three_numbers}
use Rattle.cmwq_base.proofs.usual.place_at.Goals as goal

pub returns : goal.returns
returns c =
    three_numbers c.args.bytes.now c.in_ok-item.left.now c.in_ok-queue.left.now c.in_ok-cpu.left.now
    (decimal c.in_ok-item.item.0) (decimal c.in_ok-queue.queue.0) (decimal c.in_ok-cpu.cpu.0) c.in_ok-item.ensures
    c.in_ok-queue.ensures c.in_ok-cpu.ensures
