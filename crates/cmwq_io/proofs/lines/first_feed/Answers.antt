use Rattle.cmwq_io.proofs.FirstFeed.{first_is}
use Rattle.cmwq_io.proofs.lines.first_feed.Goals as goal

pub returns : goal.returns
returns c = first_is c.args.bytes.now c.memchr.result c.memchr.ensures
