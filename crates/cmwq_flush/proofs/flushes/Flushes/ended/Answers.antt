use Rattle.cmwq_flush.proofs.Queues.{queue_ended, ended_book}
use Rattle.cmwq_flush.proofs.flushes.Flushes.ended.Goals as goal

pub returns : goal.returns
returns c = λ items rows overflow n is found. (
  rw c.from.ensures (queue_ended items rows overflow c.args.self.now is n c.args.colour found),
  ended_book items rows overflow c.args.self.now n c.args.colour,
)
