use Rattle.cmwq_flush.specs.Common.{◌≡◌, length, get_or, ap, arith}
use Rattle.cmwq_flush.proofs.Queues.{queue_opened, opened_book}
use Rattle.cmwq_flush.proofs.flushes.Flushes.opened.Goals as goal

pub returns : goal.returns
returns c = λ items rows overflow is can.
    let f = c.args.self.now in
    let current : get_or f.colours c.len.result 0 ≡ get_or f.colours (length f.served.items) 0 =
    ap (λ k. get_or f.colours k 0) (omega arith) in (
      rw c.from.ensures
          (queue_opened items rows overflow f is c.args.number (get_or f.colours c.len.result 0) can.0 current),
      opened_book items rows overflow f c.args.number (get_or f.colours c.len.result 0),
    )
