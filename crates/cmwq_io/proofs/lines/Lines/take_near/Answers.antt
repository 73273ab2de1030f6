use Rattle.std.proofs.Common.{take, ap, sym, ◌∙◌}
use Rattle.cmwq_io.specs.Feeds.{near_feed}
use Rattle.cmwq_io.proofs.FirstLineLemmas.{takes_whole}
use Rattle.cmwq_io.proofs.lines.Lines.take_near.Goals as goal

pub returns-in-Some : goal.returns-in-Some
returns-in-Some c more =
    let near = ap near_feed (sym c.ahead-ahead.ensures.value) ∙ sym c.in-Some.ensures.place in
    let line = c.set.ensures ∙ ap (take c.in-Some.at) c.ahead-ahead.ensures.value in
    rw (line, c.consume.ensures) (takes_whole c.args.self.now more c.in-Some.at near)
