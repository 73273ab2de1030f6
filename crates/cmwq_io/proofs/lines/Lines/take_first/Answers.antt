use Rattle.cmwq_io.proofs.FirstLineLemmas.{takes_long}
use Rattle.cmwq_io.proofs.lines.Lines.take_first.Goals as goal

pub returns-else-take_near : goal.returns-else-take_near
returns-else-take_near c more =
    rw (c.clear.ensures, c.if-take_near.ensures.0) (takes_long c.args.self.now more c.if-take_near.ensures.1 c.requires)
